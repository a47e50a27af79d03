-- Records on the board: it takes the frames that they give, and then its memory has the bytes that the records load.
-- Assumes nothing.
use Rattle.std.specs.Prelude.{ℕ, ◌^◌, ◌≤◌, ◌≡◌, List, [], ◌∷◌, length, set}
use Rattle.run_spec.specs.Run.{Board, board}
use Rattle.board_conversation.specs.Conversation.{Answered, conversation}
use Rattle.records_lines.specs.Conversions.{record_converted, frame_converted, Accepted, given_by}
use Rattle.records_roundtrip.specs.Loads.{LoadedByte, record_loads, loads_over}

-- memory with these bytes, one after the other
abbrev pub loaded : List LoadedByte → List ℕ → List ℕ
loaded [] m = m
loaded (x ∷ l) m = loaded l (set m x.address x.byte)

-- the frames of records on a board, the first of them in line n
abbrev pub records_on : ℕ → List (List ℕ) → Board → Answered
records_on n l b = conversation n (given_by record_converted l) b

-- records that can be put on a board: all are accepted, and the board prints no refusal of a frame
pub record BoardTakes (n : ℕ) (l : List (List ℕ)) (b : Board) : Type 0 where
  pub accepted : Accepted record_converted l
  pub quiet : (records_on n l b).printed ≡ []

-- An address has 32 bits; the board's sum of a frame's address and size is a plain one. Of more memory than that a frame could be taken
-- whose last bytes the record has at addresses from 0 on.
abbrev pub Addressed : Board → Type 0
Addressed b = length b.memory ≤ 2 ^ 32

abbrev pub RecordsLoaded : Type 0
RecordsLoaded =
    (n : ℕ) (l : List (List ℕ)) (b : Board) → Addressed b → BoardTakes n l b
    → (records_on n l b).board ≡ board b.cpu (loaded (loads_over record_loads l) b.memory)

-- so records that load the same bytes leave the same board
abbrev pub LoadsDecide : Type 0
LoadsDecide =
    (n m : ℕ) (k l : List (List ℕ)) (b : Board) → Addressed b → BoardTakes n k b → BoardTakes m l b → loads_over record_loads k ≡ loads_over record_loads l
    → (records_on n k b).board ≡ (records_on m l b).board

-- records converted in, out and in again: any board answers the same, and is the same
pub record InAgain (l : List (List ℕ)) : Type 0 where
  pub accepted : Accepted record_converted (given_by frame_converted (given_by record_converted l))
  pub same : (n : ℕ) (b : Board) → records_on n (given_by frame_converted (given_by record_converted l)) b ≡ records_on n l b

abbrev pub RecordsInAgain : Type 0
RecordsInAgain = (l : List (List ℕ)) → Accepted record_converted l → InAgain l
