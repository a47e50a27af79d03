-- The lines of an exchange among those of a text.
-- Assumes nothing.
use Rattle.std.proofs.Common.{◌≡◌, ℕ, ◌≤◌, Bool, true, false, cond, ◌&&◌, List, [], ◌∷◌, ◌++◌, length, drop, refl, ap}
use Rattle.word.proofs.CaseLaws.{by_test}
use Rattle.lines.specs.Texts.{lines_of, ended_lines, size_of}
use Rattle.lines.proofs.CutLaws.{lines_split, lines_within}
use Rattle.board_lines.specs.Lines.{frame_of}
use Rattle.board_conversation.specs.Blocks.{is_long_run, together}
use Rattle.board_conversation.specs.Loop.{exchange_lines}

-- those that wait
after_together : Bool → List (List ℕ) → List (List ℕ)
after_together begun [] = []
after_together begun (s ∷ t) = cond (begun && is_long_run (frame_of s)) (s ∷ t) (after_together true t)

all_lines : (begun : Bool) (l : List (List ℕ)) → l ≡ together begun l ++ after_together begun l
unfolding together after_together
all_lines begun [] = refl
all_lines begun (s ∷ t) =
    by_test (begun && is_long_run (frame_of s)) (λ e. rw e refl) (λ e. rw e (ap (λ (l : List (List ℕ)). s ∷ l) (all_lines true t)))

-- the others are those of the rest
pub exchange_split : (t u : List ℕ) → lines_of (t ++ u) ≡ exchange_lines t ++ lines_of (drop (size_of (exchange_lines t)) t ++ u)
exchange_split t u = lines_split (exchange_lines t) (after_together false (ended_lines t)) t u (all_lines false (ended_lines t))

pub exchange_within : (t : List ℕ) → size_of (exchange_lines t) ≤ length t
exchange_within t = lines_within (exchange_lines t) (after_together false (ended_lines t)) t (all_lines false (ended_lines t))
