-- The round trips of the two programs: what one prints is given to the other, or to the board.
-- Assumes nothing.
use Rattle.std.specs.Prelude.{ℕ, ◌≡◌, List, []}
use Rattle.lines.specs.Texts.{lines_of, lines_text}
use Rattle.run_spec.specs.Run.{Board, board}
use Rattle.records_lines.specs.Conversions.{record_converted, frame_converted, Accepted, given_by}
use Rattle.records_conversion.specs.declared.Way.{Way}
use Rattle.records_conversion.specs.declared.Way.TheVariants.{In, Out}
use Rattle.records_conversion.specs.Conversion.{converted_by, conversion_program}
use Rattle.board_conversation.specs.Conversation.{conversation}
use Rattle.records_roundtrip.specs.Loads.{record_loads, loads_over}
use Rattle.records_roundtrip.specs.BoardMemory.{loaded, Addressed}

pub record ProgramsRoundTrip : Type 0 where
  -- the lines that a program prints are those that its lines give
  pub given : (w : Way) (t : List ℕ) → Accepted (converted_by w) (lines_of t)
      → lines_of (conversion_program w t) ≡ given_by (converted_by w) (lines_of t)
  -- "Frames converted out and in again are the same frames": the last line is ended then, if it was not
  pub frames : (t : List ℕ) → Accepted frame_converted (lines_of t)
      → conversion_program In (conversion_program Out t) ≡ lines_text (lines_of t)
  -- "records converted in and out load the same bytes"
  pub records : (t : List ℕ) → Accepted record_converted (lines_of t)
      → loads_over record_loads (lines_of (conversion_program Out (conversion_program In t))) ≡ loads_over record_loads (lines_of t)
  -- and so the board loads the same memory: what the program prints, given to a board that takes it
  pub loads : (t : List ℕ) (b : Board) → Addressed b → Accepted record_converted (lines_of t)
      → (conversation 1 (lines_of (conversion_program In t)) b).printed ≡ []
      → (conversation 1 (lines_of (conversion_program In t)) b).board ≡ board b.cpu (loaded (loads_over record_loads (lines_of t)) b.memory)
