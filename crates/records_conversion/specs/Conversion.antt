-- The programs of request (j): a text of records or of frames, converted line by line.
-- Assumes nothing.
use Rattle.std.specs.Prelude.{ℕ, cond, List, [], ◌∷◌, ◌++◌, ◌==◌}
use Rattle.lines.specs.Texts.{lines_of, lines_text, next}
use Rattle.board_lines.specs.Answers.{refused_line}
use Rattle.records_lines.specs.Conversions.{LineConverted, record_converted, frame_converted}
use Rattle.records_conversion.specs.declared.Way.{Way}
use Rattle.records_conversion.specs.declared.Way.TheVariants.{In, Out}

-- a line of records, or of frames
abbrev pub converted_by : Way → List ℕ → LineConverted
converted_by In s = record_converted s
converted_by Out s = frame_converted s

-- what line n prints, and after it the others, unless it is refused: "The first found prints its 82 line and stops the work"
abbrev pub printed_then : LineConverted → ℕ → List ℕ → List ℕ
printed_then c n rest = cond (c.refusal == 0) (lines_text c.lines ++ rest) (refused_line c.refusal n)

-- lines from line n on
unfoldable pub conversion : Way → ℕ → List (List ℕ) → List ℕ
conversion w n [] = []
conversion w n (s ∷ l) = printed_then (converted_by w s) n (conversion w (next n) l)

-- what the program prints for an input
abbrev pub conversion_program : Way → List ℕ → List ℕ
conversion_program w input = conversion w 1 (lines_of input)
