-- In whatever pieces the input comes, the same is printed.
-- Assumes nothing.
use Rattle.std.proofs.Common.{◌≡◌, ℕ, ◌≤◌, false, List, [], ◌∷◌, ◌++◌, length, take, drop, sym, refl, ap, ◌∙◌, append_assoc, append-nil, arith, ltb-false}
use Rattle.word.proofs.CaseLaws.{by_test}
use Rattle.run_spec.specs.Run.{Board}
use Rattle.board_lines.proofs.FrameLaws.{too_long}
use Rattle.lines.specs.Texts.{lines_of, newline_at, next, ends_line, size_of, last_of, last_line, whole}
use Rattle.board_lines.specs.Totals.{Totals, totals_line}
use Rattle.board_lines.specs.declared.Tally.{Tally}
use Rattle.board_lines.specs.Printouts.{totals_at, start_tally, lines_added}
use Rattle.lines.proofs.TextLaws.{Plain}
use Rattle.board_lines.proofs.TotalsLaws.{added_totals}
use Rattle.board_conversation.specs.Conversation.{Answered, line_answer, frame_answer, printed_after, conversation, program_on}
use Rattle.board_conversation.specs.Code.{BoardIo}
use Rattle.board_conversation.specs.Loop.{exchange_lines, most_carried, carried_of, exchange_of, streamed}
use Rattle.lines.proofs.CutLaws.{plain_take, cut, last_line_law}
use Rattle.board_conversation.proofs.LineLaws.{exchange_split}
use Rattle.board_conversation.proofs.PrintedLaws.{conversation_added}

-- ---- lines after lines

pub conversed : (n : ℕ) (s t : List (List ℕ)) (b : Board)
    → (conversation (next n) (s ++ t) b).printed
    ≡ (conversation (next n) s b).printed ++ (conversation (next (last_of n s)) t (conversation (next n) s b).board).printed
unfolding conversation last_of
conversed n [] t b = refl
conversed n (l ∷ s) t b =
    let a = line_answer (next n) l b in
    ap (λ (x : List ℕ). a.printed ++ x) (conversed (next n) s t a.board)
    ∙ sym
    (append_assoc a.printed (conversation (next (next n)) s a.board).printed
    (conversation (next (last_of (next n) s)) t (conversation (next (next n)) s a.board).board).printed)

-- ---- a long line cut to 75 bytes

long_answer : (n : ℕ) (s t : List ℕ) (b : Board) → 75 ≤ length s → 75 ≤ length t → line_answer n s b ≡ line_answer n t b
unfolding frame_answer
long_answer n s t b g h =
    ap (frame_answer n s b) (sym (too_long s g)) ∙ ap (frame_answer n t b) (too_long t h)

first_line : (n : ℕ) (s t : List ℕ) (r : List (List ℕ)) (b : Board) → line_answer n s b ≡ line_answer n t b
    → conversation n (s ∷ r) b ≡ conversation n (t ∷ r) b
unfolding conversation
first_line n s t r b e = ap (λ (a : Answered). printed_after a.printed (conversation (next n) r a.board)) e

pub cut_answers : (n : ℕ) (c u : List ℕ) (b : Board) → Plain c
    → conversation n (lines_of (take 75 c ++ u)) b ≡ conversation n (lines_of (c ++ u)) b
cut_answers n c u b p =
    cut (λ (l : List (List ℕ)). conversation n l b) 75 (omega arith)
    (λ s t r g h. first_line n s t r b (long_answer n s t b g h)) c u p

-- ---- exchanges

-- bytes that are kept say as much as all
kept_lines : (n : ℕ) (t u : List ℕ) (b : Board) → conversation n (lines_of (carried_of t ++ u)) b ≡ conversation n (lines_of (t ++ u)) b
kept_lines n t u b =
    by_test (ends_line t) (λ h. rw h refl) (λ h. rw h (cut_answers n t u b (ltb-false (newline_at t) (length t) h)))

-- where an exchange leaves no line that ends, what it keeps is one line or none: the loop then reads, or comes to its end
pub end_lines : (n : ℕ) (t : List ℕ) (d : BoardIo) → (exchange_of n t d).more ≡ false
    → lines_of (exchange_of n t d).bytes ≡ last_line (exchange_of n t d).bytes
end_lines n t d h =
    let rest = drop (size_of (exchange_lines t)) t in
    rw h (last_line_law (take most_carried rest) (plain_take most_carried rest (ltb-false (newline_at rest) (length rest) h)))

-- a text and the totals after it, after the tally k
abbrev pub ending : Tally → List ℕ → List ℕ
ending k t = t ++ totals_line (totals_at (lines_added (lines_of t) k))

ending_after : (n : ℕ) (l : List (List ℕ)) (b : Board) (k : Tally) (w : List ℕ)
    → (conversation n l b).printed ++ ending (lines_added (lines_of (conversation n l b).printed) k) w ≡ ending k ((conversation n l b).printed ++ w)
ending_after n l b k w =
    let t = (conversation n l b).printed in
    sym (append_assoc t w (totals_line (totals_at (lines_added (lines_of w) (lines_added (lines_of t) k)))))
    ∙ ap (λ (c : Tally). (t ++ w) ++ totals_line (totals_at c)) (conversation_added n b w k l)

pub streamed_is : (xs : List (List ℕ)) (n : ℕ) (c : List ℕ) (k : Tally) (b : Board)
    → streamed n c xs k b ≡ ending k (conversation (next n) (lines_of (c ++ whole xs)) b).printed
unfolding streamed
streamed_is [] n c k b = ap (λ (t : List ℕ). ending k (conversation (next n) (lines_of t) b).printed) (sym (append-nil c))
streamed_is (x ∷ xs) n c k b =
    let t = c ++ x in
    let l = exchange_lines t in
    let a = conversation (next n) l b in
    let after = lines_added (lines_of a.printed) k in
    let rest = drop (size_of l) t in
    ap (λ (w : List ℕ). a.printed ++ w)
    (streamed_is xs (last_of n l) (carried_of rest) after a.board
    ∙ ap (λ (y : Answered). ending after y.printed) (kept_lines (next (last_of n l)) rest (whole xs) a.board))
    ∙ ending_after (next n) l b k (conversation (next (last_of n l)) (lines_of (rest ++ whole xs)) a.board).printed
    ∙ ap (ending k)
    (sym (conversed n l (lines_of (rest ++ whole xs)) b)
    ∙ sym (ap (λ (y : List (List ℕ)). (conversation (next n) y b).printed) (exchange_split t (whole xs)))
    ∙ ap (λ (y : List ℕ). (conversation (next n) (lines_of y) b).printed) (append_assoc c x (whole xs)))

-- the answers and their totals, in whatever pieces the input comes
pub stream : (xs : List (List ℕ)) (b : Board) → streamed 0 [] xs start_tally b ≡ program_on b (whole xs)
stream xs b =
    let t = (conversation 1 (lines_of (whole xs)) b).printed in
    streamed_is xs 0 [] start_tally b ∙ ap (λ (k : Totals). t ++ totals_line k) (added_totals (lines_of t))
