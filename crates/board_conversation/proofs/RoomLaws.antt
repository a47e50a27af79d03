-- No answer is left out where the buffer has thirteen bytes for each byte that was read.
-- Assumes nothing.
use Rattle.std.proofs.Common.{◌≡◌, ℕ, zero, suc, ◌+◌, ◌*◌, ◌≤◌, Bool, true, false, ◌&&◌, eqb, List, [], ◌∷◌, ◌++◌, length, sym, refl, ap, ◌∙◌, add-zero, arith, length-append}
use Rattle.std.specs.Prelude.{Option, Some, None}
use Rattle.word.proofs.CaseLaws.{by_test}
use Rattle.run_spec.specs.Run.{Board}
use Rattle.machine.specs.Registers.{set_register}
use Rattle.hex_digits.specs.Output.{Output, output, written}
use Rattle.hex_digits.proofs.OutputLaws.{length_written, on_output, room_printed}
use Rattle.board_lines.specs.declared.Frame.{Frame}
use Rattle.board_lines.specs.declared.Frame.TheVariants.{Set, Store, Run, Confined}
use Rattle.board_lines.specs.Lines.{is_length, frame_of}
use Rattle.board_lines.specs.Stores.{frame_store}
use Rattle.board_lines.proofs.FrameLaws.{frame_length, bad_length}
use Rattle.board_lines.specs.Answers.{unless_done}
use Rattle.lines.specs.Texts.{lines_of, next, onto_ended, ended_lines, last_line}
use Rattle.board_lines.specs.Totals.{totals_line}
use Rattle.board_lines.specs.declared.Tally.{Tally}
use Rattle.board_lines.specs.Printouts.{totals_at, Printout, printout, lines_added}
use Rattle.board_lines.proofs.TotalsLaws.{tallied_room}
use Rattle.board_conversation.specs.Conversation.{Answered, line_answer, frame_answer, conversation}
use Rattle.board_conversation.specs.Code.{BoardIo, board_io}
use Rattle.board_conversation.specs.Blocks.{is_long_run, together, lines_on}
use Rattle.board_conversation.specs.Loop.{exchange_lines, exchange_of, totals_on}
use Rattle.board_conversation.proofs.PrintedLaws.{answer_added}

-- ---- what a line prints at most

unless_short : (n r : ℕ) → length (unless_done n r) ≤ 13
unless_short n zero = omega arith
unless_short n (suc r) = omega arith

frame_short : (n : ℕ) (s : List ℕ) (b : Board) (f : Option Frame) → length (frame_answer n s b f).printed ≤ 31
unfolding frame_answer
frame_short n s b (Some (Set p v)) = omega (arith, unless_short n (set_register b.cpu.bank p v).refusal)
frame_short n s b (Some (Store a)) = omega (arith, unless_short n (frame_store s b.memory a).refusal)
frame_short n s b (Some (Run k l)) = omega arith
frame_short n s b (Some (Confined k l)) = omega arith
frame_short n s b None = omega arith

bad_short : (n : ℕ) (s : List ℕ) (b : Board) → length (frame_answer n s b None).printed ≤ 13
unfolding frame_answer
bad_short n s b = omega arith

answer_short : (n : ℕ) (s : List ℕ) (b : Board) → length (line_answer n s b).printed ≤ suc (length s) * 13
answer_short n s b =
    by_test (is_length (length s))
    (λ h. omega (arith, frame_short n s b (frame_of s), (frame_length (length s) h).least))
    (λ h. let e = bad_length s false (sym h) refl in
    rw (sym e) (omega (arith, bad_short n s b)))

-- the room that lines need, their newlines counted
room : List (List ℕ) → ℕ
room [] = 0
room (s ∷ t) = suc (length s) * 13 + room t

-- ---- lines one after the other

-- the board and the buffer after a conversation, and the tally
abbrev pub answered_over : Answered → List ℕ → ℕ → Tally → BoardIo
answered_over a o p k =
    board_io a.board (printout (output (written o p a.printed) (p + length a.printed)) (lines_added (lines_of a.printed) k))

roomy : (l : List (List ℕ)) (n : ℕ) (b : Board) (o : List ℕ) (p : ℕ) (k : Tally) → p + room l ≤ length o
    → lines_on n l (board_io b (printout (output o p) k)) ≡ answered_over (conversation n l b) o p k
unfolding lines_on conversation room lines_added lines_of
roomy [] n b o p k h = (λ i. board_io b (printout (output o (sym (add-zero p) i)) k))
roomy (s ∷ l) n b o p k h =
    let a = line_answer n s b in
    let t = a.printed in
    let w = (conversation (next n) l a.board).printed in
    let short = answer_short n s b in
    ap (λ (x : Printout). lines_on (next n) l (board_io a.board x)) (tallied_room t o p k (omega arith))
    ∙ roomy l (next n) a.board (written o p t) (p + length t) (lines_added (lines_of t) k) (rw (length_written t o p) (omega arith))
    ∙ (λ i. board_io (conversation (next n) l a.board).board (printout (on_output t w o p i) (answer_added n b w k s i)))

room_onto : (b : ℕ) (l : List (List ℕ)) → room (onto_ended b l) ≤ 13 + room l
unfolding room
room_onto b [] = omega arith
room_onto b (s ∷ l) = omega arith

room_ended : (t : List ℕ) → room (ended_lines t) ≤ length t * 13
unfolding ended_lines room
room_ended [] = omega arith
room_ended (b ∷ t) =
    by_test (eqb b 10)
    (λ e. rw e (omega (arith, room_ended t)))
    (λ e. rw e (omega (arith, room_ended t, room_onto b (ended_lines t))))

room_together : (begun : Bool) (l : List (List ℕ)) → room (together begun l) ≤ room l
unfolding together room
room_together begun [] = omega arith
room_together begun (s ∷ l) =
    by_test (begun && is_long_run (frame_of s)) (λ e. rw e (omega arith)) (λ e. rw e (omega (arith, room_together true l)))

-- what they print is within that room
printed_room : (l : List (List ℕ)) (n : ℕ) (b : Board) → length (conversation n l b).printed ≤ room l
unfolding conversation room
printed_room [] n b = omega arith
printed_room (s ∷ l) n b =
    let a = line_answer n s b in
    let w = (conversation (next n) l a.board).printed in
    omega (arith, length-append a.printed w, answer_short n s b, printed_room l (next n) a.board)

-- ---- an exchange of the loop

exchange_room : (t : List ℕ) → room (exchange_lines t) ≤ length t * 13
exchange_room t = omega (arith, room_ended t, room_together false (ended_lines t))

pub exchange_fits : (n : ℕ) (t : List ℕ) (b : Board) → length (conversation (next n) (exchange_lines t) b).printed ≤ length t * 13
exchange_fits n t b = omega (arith, printed_room (exchange_lines t) (next n) b, exchange_room t)

pub exchange_printed : (n : ℕ) (t : List ℕ) (b : Board) (o : List ℕ) (k : Tally) → length t * 13 ≤ length o
    → (exchange_of n t (board_io b (printout (output o 0) k))).board_io ≡ answered_over (conversation (next n) (exchange_lines t) b) o 0 k
exchange_printed n t b o k h =
    roomy (exchange_lines t) (next n) b o 0 k (omega (arith, exchange_room t))

-- ---- the end of input: the last line's answer, and the totals

abbrev ended_over : Answered → List ℕ → Tally → BoardIo
ended_over a o k =
    board_io a.board (printout (output (written o 0 (a.printed ++ totals_line (totals_at k))) (0 + length (a.printed ++ totals_line (totals_at k)))) k)

room_last : (c : List ℕ) → room (last_line c) ≤ suc (length c) * 13
unfolding room
room_last [] = omega arith
room_last (b ∷ c) = omega arith

pub end_fits : (n : ℕ) (c : List ℕ) (b : Board) (k : Tally)
    → length ((conversation (next n) (last_line c) b).printed ++ totals_line (totals_at k)) ≤ suc (length c) * 13 + 27
end_fits n c b k =
    let w = (conversation (next n) (last_line c) b).printed in
    omega (arith, length-append w (totals_line (totals_at k)), printed_room (last_line c) (next n) b, room_last c)

pub end_printed : (n : ℕ) (c : List ℕ) (b : Board) (o : List ℕ) (k : Tally) → suc (length c) * 13 + 27 ≤ length o
    → totals_on (lines_on (next n) (last_line c) (board_io b (printout (output o 0) k)))
    ≡ ended_over (conversation (next n) (last_line c) b) o (lines_added (lines_of (conversation (next n) (last_line c) b).printed) k)
end_printed n c b o k h =
    ap totals_on (roomy (last_line c) (next n) b o 0 k (omega (arith, room_last c)))
    ∙ ap (λ (x : Output). board_io a.board (printout x t))
    (room_printed (totals_line (totals_at t)) (written o 0 w) (0 + length w)
    (rw (length_written w o 0) (omega (arith, room_last c, printed_room (last_line c) (next n) b))) ∙ on_output w (totals_line (totals_at t)) o 0)
  where
    a : Answered
    a = conversation (next n) (last_line c) b

    w : List ℕ
    w = a.printed

    t : Tally
    t = lines_added (lines_of w) k
