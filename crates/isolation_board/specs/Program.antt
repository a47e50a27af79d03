-- The board program of the running code: in whatever pieces its input is read, what the exchanges of its loop and its end hand to
-- the writes, by the contracts that they export, is what the definition prints, totals too.
-- Assumes nothing.
use Rattle.std.specs.Prelude.{ℕ, suc, ◌+◌, ◌*◌, ◌≤◌, ◌≡◌, false, List, [], ◌∷◌, ◌++◌, length, take, drop}
use Rattle.word.proofs.ListLaws.{Each}
use Rattle.memory.specs.Bytes.{Memory}
use Rattle.machine.specs.Status.{Cpu}
use Rattle.run_spec.specs.Run.{board}
use Rattle.hex_digits.specs.Output.{Output}
use Rattle.board_lines.specs.Printouts.{start_tally, printout}
use Rattle.board_conversation.specs.Conversation.{program_on}
use Rattle.lines.specs.Texts.{ends_line, size_of, whole}
use Rattle.board_conversation.specs.Loop.{exchange_lines, most_carried}
use Rattle.isolation_board.specs.Calls.{ExchangePlaces, LentBoard, ExchangeCall, LastCall}
use Rattle.isolation_board.specs.Exchanges.{Between, after_exchange, Exchanges, after_all, End, begun}

-- ---- what is handed to a write: the buffer up to its place

abbrev pub handed_from : LentBoard → List ℕ
handed_from s = take s.printout.output.place s.printout.output.bytes

abbrev pub handed : ExchangeCall → List ℕ
handed x = handed_from x.left

abbrev pub handed_by : List ExchangeCall → List ℕ
handed_by [] = []
handed_by (x ∷ xs) = handed x ++ handed_by xs

abbrev pub handed_last : LastCall → List ℕ
handed_last x = handed_from x.left

-- ---- how the loop calls them

-- no line prints more bytes for each of its own, its newline counted
abbrev pub most_printed : ℕ
most_printed = 13

-- the bytes of the totals' line
abbrev pub totals_size : ℕ
totals_size = 27

-- the buffer has room for what an exchange is given, as the program's has for its whole block
abbrev pub RoomFor : Between → List (List ℕ) → List ExchangeCall → Type 0
RoomFor b [] xs = Unit {0}
RoomFor b (r ∷ rs) [] = Unit {0}
RoomFor b (r ∷ rs) (x ∷ xs) = (length (b.kept ++ r) * most_printed ≤ length b.lent.printout.output.bytes) × RoomFor (after_exchange x) rs xs

-- at the end, for what is left and for the totals
abbrev pub RoomAtEnd : Between → Type 0
RoomAtEnd b = suc (length b.kept) * most_printed + totals_size ≤ length b.lent.printout.output.bytes

-- the end is looked for only where no line that ends is left
abbrev pub NoMore : List ExchangeCall → Type 0
NoMore [] = Unit {0}
NoMore (x ∷ []) = x.answer.more ≡ false
NoMore (x ∷ (y ∷ ys)) = NoMore (y ∷ ys)

-- before the first read, on a board and a buffer
abbrev pub first : Cpu → Memory → Output → Between
first c m o = begun c m (printout o start_tally) 0 []

-- from the first read to the end of input
pub record Served (c : Cpu) (m : Memory) (o : Output) (reads : List (List ℕ)) : Type 0 where
  pub calls : List ExchangeCall
  pub last : LastCall
  pub exchanges : Exchanges (first c m o) reads calls
  pub room : RoomFor (first c m o) reads calls
  pub no_more : NoMore calls
  pub at_end : End (after_all (first c m o) calls) last
  pub room_at_end : RoomAtEnd (after_all (first c m o) calls)

-- ---- all that is handed to the writes is what the definition prints for the whole input

abbrev pub ProgramPrints : Type 0
ProgramPrints =
    (c : Cpu) (m : Memory) (o : Output) (reads : List (List ℕ)) (s : Served c m o reads)
    → handed_by s.calls ++ handed_last s.last ≡ program_on (board c m) (whole reads)

-- and before the end, as where a read or a write fails: what was handed is how the text begins, whatever would have followed
abbrev pub ProgramBegins : Type 0
ProgramBegins =
    (c : Cpu) (m : Memory) (o : Output) (reads : List (List ℕ)) (calls : List ExchangeCall)
    → Exchanges (first c m o) reads calls → RoomFor (first c m o) reads calls
    → (more : List ℕ) → take (length (handed_by calls)) (program_on (board c m) (whole reads ++ more)) ≡ handed_by calls

-- each call leaves the buffer where it was lent
pub record ServedInPlace (c : Cpu) (m : Memory) (o : Output) (reads : List (List ℕ)) : Type 0 where
  pub served : Served c m o reads
  pub in_place : Each (λ (x : ExchangeCall). x.left_at ≡ x.places.buffer) served.calls
  pub last_in_place : served.last.left_at ≡ served.last.places.buffer

-- there are such calls: the contracts allow them for every input that is read at once and leaves no line that ends, where the
-- buffer has the room, and allow that the buffer is left in its place
abbrev pub ProgramServes : Type 0
ProgramServes =
    ExchangePlaces → (c : Cpu) (m : Memory) (o : Output) (input : List ℕ) → ends_line (drop (size_of (exchange_lines input)) input) ≡ false
    → length input * most_printed ≤ length o.bytes → suc most_carried * most_printed + totals_size ≤ length o.bytes
    → ServedInPlace c m o (input ∷ [])
