-- Lines that are confined runs or refused, put to two boards with the same buffer.
-- Assumes nothing.
use Prim.Native.Nat.{ℕ}
use mathlib.Core.Path.{◌≡◌, refl, ap, ◌∙◌}
use mathlib.Core.Bool.{true}
use mathlib.Core.List.{List, [], ◌∷◌}
use Rattle.run_spec.specs.Run.{Board}
use Rattle.board_lines.specs.Printouts.{Printout, tallied}
use Rattle.lines.specs.Texts.{next}
use Rattle.board_conversation.specs.Conversation.{line_answer, conversation}
use Rattle.board_conversation.specs.Code.{board_io}
use Rattle.board_conversation.specs.Blocks.{lines_on}
use Rattle.isolation_board.specs.Lines.{admits_lines, SameLines}
use Rattle.isolation_board.specs.Buffers.{ConfinedBuffers}
use Rattle.isolation_board.proofs.Lines.{Alike, alike, lines_same}

-- the board that answers lines is that of the conversation
answered_board : (n : ℕ) (t : List (List ℕ)) (a : Board) (o : Printout) → (lines_on n t (board_io a o)).board ≡ (conversation n t a).board
unfolding lines_on conversation
answered_board n [] a o = refl
answered_board n (s ∷ t) a o = answered_board (next n) t (line_answer n s a).board (tallied (line_answer n s a).printed o)

module _ (H : ℕ → Type 0) (a₀ b₀ : Board) where
  printout_same : (n : ℕ) (t : List (List ℕ)) (a b : Board) (o : Printout) → SameLines H a₀ b₀ n t a b
      → (lines_on n t (board_io a o)).printout ≡ (lines_on n t (board_io b o)).printout
  unfolding lines_on
  printout_same n [] a b o h = refl
  printout_same n (s ∷ t) a b o h =
      let a' = (line_answer n s a).board in
      ap (λ (p : List ℕ). (lines_on (next n) t (board_io a' (tallied p o))).printout) h.0.printed
      ∙ printout_same (next n) t a' (line_answer n s b).board (tallied (line_answer n s b).printed o) h.1

  pub buffers_same : (n : ℕ) (t : List (List ℕ)) (a b : Board) (o : Printout) → Alike H a₀ b₀ a b → admits_lines n t a ≡ true
      → ((lines_on n t (board_io a o)).printout ≡ (lines_on n t (board_io b o)).printout)
      × Alike H a₀ b₀ (lines_on n t (board_io a o)).board (lines_on n t (board_io b o)).board
  buffers_same n t a b o h g =
      let x = lines_same H a₀ b₀ n t a b h g in
      (printout_same n t a b o x.0, rw (answered_board n t a o, answered_board n t b o) x.1)

pub confined_buffers : ConfinedBuffers
confined_buffers H a b p o n lines g =
    let x = buffers_same H a b n lines a b o (alike H a b p) g in
    (x.0, x.1.now)
