-- What the calls of the board program's loop hand to its writes, from what their contracts say.
-- Assumes nothing.
use Prim.Native.Nat.{ℕ, suc, ◌+◌, ◌*◌, ◌≤◌}
use mathlib.Core.Path.{◌≡◌, refl, sym, ap, ◌∙◌}
use mathlib.Core.Bool.{false}
use mathlib.Core.List.{List, [], ◌∷◌, ◌++◌, append_assoc, append-nil}
use native.Mathlib.Omega.{arith}
use lib.ListN.{length, take, drop, length-take}
use lib.Seq.{take-length, take-append_seam}
use Rattle.word.proofs.ListLaws.{no_others, ◌also◌}
use Rattle.run_spec.specs.Run.{board}
use Rattle.hex_digits.proofs.OutputLaws.{length_written, printed_front}
use Rattle.lines.specs.Texts.{lines_of, next, size_of, last_line, whole}
use Rattle.hex_digits.specs.Output.{output}
use Rattle.board_lines.specs.Printouts.{start_tally, printout, lines_added}
use Rattle.board_conversation.specs.declared.LoopState.{LoopState}
use Rattle.board_conversation.specs.Conversation.{Answered, conversation, program_on}
use Rattle.board_conversation.specs.Code.{BoardIo, board_io}
use Rattle.board_conversation.specs.Blocks.{lines_on}
use Rattle.board_conversation.specs.Loop.{exchange_lines, most_carried, Exchange, exchange, exchange_of, beginning, totals_on, streamed}
use Rattle.board_conversation.proofs.LoopLaws.{end_lines, ending, stream}
use Rattle.board_conversation.proofs.RoomLaws.{answered_over, exchange_fits, exchange_printed, end_fits, end_printed}
use Rattle.isolation_board.specs.Calls.{LentBoard, ExchangeCall, LastCall}
use Rattle.isolation_board.specs.Exchanges.{Between, board_of, bytes_kept, after_exchange, Exchanging, Exchanges, after_all, End}
use Rattle.isolation_board.specs.Program.{handed, handed_by, handed_last, first, RoomFor, RoomAtEnd, NoMore, Served, ProgramBegins, ProgramPrints, ProgramServes}
use Rattle.isolation_board.proofs.Exchanges.{io_by, cleared_by, exchange_by, exchange_said, end_said}

-- what a write is handed of a board's buffer
front : BoardIo → List ℕ
front d = take d.printout.output.place d.printout.output.bytes

-- ---- an exchange

module _ (b : Between) (r : List ℕ) (x : ExchangeCall) (f : Exchanging b r x) (h : length (b.kept ++ r) * 13 ≤ length b.lent.printout.output.bytes) where
  abbrev given : List ℕ
  given = b.kept ++ r

  abbrev answers : Answered
  answers = conversation (next b.last) (exchange_lines given) (board_of b.lent)

  left_by : io_by x.left ≡ answered_over answers b.lent.printout.output.bytes 0 b.lent.printout.tally
  left_by =
      ap (λ (z : Exchange). z.board_io) (exchange_said b r x f)
      ∙ exchange_printed b.last given (board_of b.lent) b.lent.printout.output.bytes b.lent.printout.tally h

  handed_is : handed x ≡ answers.printed
  unfolding front
  handed_is =
      ap front left_by
      ∙ printed_front answers.printed b.lent.printout.output.bytes (omega (arith, h, exchange_fits b.last given (board_of b.lent)))

  -- with what follows
  goes_on : (rs : List (List ℕ)) (t : List ℕ)
      → t ≡ streamed x.answer.last (bytes_kept x) rs x.left.printout.tally (board_of x.left)
      → handed x ++ t ≡ streamed b.last b.kept (r ∷ rs) b.lent.printout.tally (board_of b.lent)
  unfolding streamed
  goes_on rs t e =
      let last = ap (λ (z : Exchange). z.last) (exchange_said b r x f) in
      let kept = ap (λ (z : Exchange). z.bytes) (exchange_said b r x f) in
      let tally = ap (λ (d : BoardIo). d.printout.tally) left_by in
      let left = ap (λ (d : BoardIo). d.board) left_by in
      (λ i. handed_is i ++ (e ∙ (λ j. streamed (last j) (kept j) rs (tally j) (left j))) i)

  -- what it keeps is one line or none, where it leaves no line that ends
  one_kept : x.answer.more ≡ false → lines_of (bytes_kept x) ≡ last_line (bytes_kept x)
  one_kept e =
      let said = exchange_said b r x f in
      let kept = ap (λ (z : Exchange). z.bytes) said in
      rw kept (end_lines b.last given (cleared_by b.lent) (sym (ap (λ (z : Exchange). z.more) said) ∙ e))

-- ---- the end

end_handed : (b : Between) (y : LastCall) → End b y → RoomAtEnd b → lines_of b.kept ≡ last_line b.kept
    → handed_last y ≡ streamed b.last b.kept [] b.lent.printout.tally (board_of b.lent)
unfolding front streamed
end_handed b y f h e =
    ap front (end_said b y f ∙ end_printed b.last b.kept (board_of b.lent) b.lent.printout.output.bytes b.lent.printout.tally h)
    ∙ printed_front _ b.lent.printout.output.bytes (omega (arith, h, end_fits b.last b.kept (board_of b.lent) (lines_added (lines_of a.printed) b.lent.printout.tally)))
    ∙ ap (λ (l : List (List ℕ)). ending b.lent.printout.tally (conversation (next b.last) l (board_of b.lent)).printed) (sym e)
  where
    a : Answered
    a = conversation (next b.last) (last_line b.kept) (board_of b.lent)

-- ---- all exchanges

settled : (b : Between) (r : List ℕ) (rs : List (List ℕ)) (x : ExchangeCall) (xs : List ExchangeCall)
    → Exchanges b (r ∷ rs) (x ∷ xs) → RoomFor b (r ∷ rs) (x ∷ xs) → NoMore (x ∷ xs)
    → lines_of (after_all b (x ∷ xs)).kept ≡ last_line (after_all b (x ∷ xs)).kept
settled b r [] x [] f h e = one_kept b r x f.0 h.0 e
settled b r [] x (y ∷ ys) f h e = absurd f.1
settled b r (s ∷ rs) x [] f h e = absurd f.1
settled b r (s ∷ rs) x (y ∷ ys) f h e = settled (after_exchange x) s rs y ys f.1 h.1 e

all_handed : (b : Between) (rs : List (List ℕ)) (xs : List ExchangeCall) (y : LastCall) → Exchanges b rs xs → RoomFor b rs xs
    → lines_of (after_all b xs).kept ≡ last_line (after_all b xs).kept → End (after_all b xs) y → RoomAtEnd (after_all b xs)
    → handed_by xs ++ handed_last y ≡ streamed b.last b.kept rs b.lent.printout.tally (board_of b.lent)
all_handed b [] [] y f h e g k = end_handed b y g k e
all_handed b [] (x ∷ xs) y f h e g k = absurd f
all_handed b (r ∷ rs) [] y f h e g k = absurd f
all_handed b (r ∷ rs) (x ∷ xs) y f h e g k =
    append_assoc (handed x) (handed_by xs) (handed_last y)
    ∙ goes_on b r x f.0 h.0 rs (handed_by xs ++ handed_last y) (all_handed (after_exchange x) rs xs y f.1 h.1 e g k)

-- ---- before the end

whole_after : (rs : List (List ℕ)) (u : List ℕ) → whole (rs ++ (u ∷ [])) ≡ whole rs ++ u
whole_after [] u = append-nil u
whole_after (r ∷ rs) u = ap (λ (t : List ℕ). r ++ t) (whole_after rs u) ∙ sym (append_assoc r (whole rs) u)

begun_handed : (b : Between) (rs : List (List ℕ)) (xs : List ExchangeCall) (u : List ℕ) → Exchanges b rs xs → RoomFor b rs xs
    → handed_by xs
    ++ streamed (after_all b xs).last (after_all b xs).kept (u ∷ []) (after_all b xs).lent.printout.tally (board_of (after_all b xs).lent)
    ≡ streamed b.last b.kept (rs ++ (u ∷ [])) b.lent.printout.tally (board_of b.lent)
begun_handed b [] [] u f h = refl
begun_handed b [] (x ∷ xs) u f h = absurd f
begun_handed b (r ∷ rs) [] u f h = absurd f
begun_handed b (r ∷ rs) (x ∷ xs) u f h =
    append_assoc (handed x) (handed_by xs) _
    ∙ goes_on b r x f.0 h.0 (rs ++ (u ∷ [])) _ (begun_handed (after_exchange x) rs xs u f.1 h.1)

pub program_begins : ProgramBegins
program_begins c m o reads calls f h u =
    ap (take (length (handed_by calls)))
    (ap (program_on (board c m)) (sym (whole_after reads u))
    ∙ sym (stream (reads ++ (u ∷ [])) (board c m))
    ∙ sym (begun_handed (first c m o) reads calls u f h))
    ∙ take-append_seam (handed_by calls) _

-- ---- to the end

pub program_prints : ProgramPrints
unfolding lines_of
program_prints c m o reads s =
    all_handed (first c m o) reads s.calls s.last s.exchanges s.room (kept reads s.calls s.exchanges s.room s.no_more)
    s.at_end s.room_at_end
    ∙ stream reads (board c m)
  where
    kept : (rs : List (List ℕ)) (xs : List ExchangeCall) → Exchanges (first c m o) rs xs
        → RoomFor (first c m o) rs xs → NoMore xs
        → lines_of (after_all (first c m o) xs).kept ≡ last_line (after_all (first c m o) xs).kept
    kept [] [] f h e = refl
    kept [] (x ∷ xs) f h e = absurd f
    kept (r ∷ rs) [] f h e = absurd f
    kept (r ∷ rs) (x ∷ xs) f h e = settled (first c m o) r rs x xs f h e

-- ---- calls that the contracts allow

pub program_serves : ProgramServes
program_serves p c m o input e h g = record { served = served; in_place = refl also no_others; last_in_place = refl }
  where
    after : Exchange
    after = exchange_of 0 input (board_io (board c m) (printout (output o.bytes 0) start_tally))

    lent_by : BoardIo → LentBoard
    lent_by d = record { machine = d.board.cpu; memory = d.board.memory; printout = d.printout }

    state : LoopState
    state =
        record { from = 0; end = length after.bytes; more = after.more; last = after.last }

    call : ExchangeCall
    call =
        record {
          places = p;
          stream = beginning;
          end = length input;
          block = input;
          answer = state;
          block_left = after.bytes;
          left = lent_by after.board_io;
          left_at = p.buffer;
        }

    exchange_allowed : exchange_by call ≡ exchange_of 0 (take (length input) input) (board_io (board c m) (printout (output o.bytes 0) start_tally))
    exchange_allowed =
        ap (λ (t : List ℕ). exchange after.board_io after.last t after.more) (take-length after.bytes)
        ∙ ap (λ (t : List ℕ). exchange_of 0 t (board_io (board c m) (printout (output o.bytes 0) start_tally))) (sym (take-length input))

    over : BoardIo
    over =
        totals_on
        (lines_on (next after.last) (last_line (take (length after.bytes) after.bytes)) (cleared_by (lent_by after.board_io)))

    last_call : LastCall
    last_call = record { places = p; stream = state; block = after.bytes; left = lent_by over; left_at = p.buffer }

    room_left : suc (length (take (length after.bytes) after.bytes)) * 13 + 27 ≤ length after.board_io.printout.output.bytes
    room_left =
        let rest = drop (size_of (exchange_lines input)) input in
        let whole-rest = ap length (take-length after.bytes) in
        let kept : length after.bytes ≡ length (take most_carried rest) = rw e refl in
        let same : length after.board_io.printout.output.bytes ≡ length o.bytes =
        ap (λ (d : BoardIo). length d.printout.output.bytes) (exchange_printed 0 input (board c m) o.bytes start_tally h)
        ∙ length_written (conversation 1 (exchange_lines input) (board c m)).printed o.bytes 0 in
        omega (arith, whole-rest, kept, length-take most_carried rest, same, g)

    served : Served c m o (input ∷ [])
    served =
        record {
          calls = call ∷ [];
          last = last_call;
          exchanges = (record { number = refl; bytes = take-length input; answers = λ _. (refl, exchange_allowed) }, tt);
          room = (h, tt);
          no_more = e;
          at_end = record { number = refl; bytes = refl; answers = λ _. (refl, refl) };
          room_at_end = room_left;
        }
