-- The loop of the programs that convert: it reads, converts the lines that end, writes what they give, and keeps the rest.
-- Assumes nothing.
use Rattle.std.specs.Prelude.{ℕ, ◌+◌, ◌*◌, Bool, true, false, cond, List, [], ◌∷◌, length, take, drop, ◌==◌, Result, Ok, Err}
use Rattle.refusals.specs.declared.Refusal.{Refusal}
use Rattle.hex_digits.specs.Output.{Output, output, printed}
use Rattle.hex_digits.specs.declared.Writer.{Writer}
use Rattle.lines.specs.Texts.{lines_text, next, ended_lines, size_of}
use Rattle.board_lines.specs.Answers.{refused_line}
use Rattle.records_lines.specs.Conversions.{LineConverted}
use Rattle.records_conversion.specs.declared.Way.{Way}
use Rattle.records_conversion.specs.declared.ConversionState.{ConversionState}
use Rattle.records_conversion.specs.Conversion.{converted_by}

-- ---- lines, one after the other

-- a lent buffer, the number of the last line, and whether the work is over
pub record Progress : Type 0 where
  pub output : Output
  pub last : ℕ
  pub over : Bool

abbrev pub progress : Output → ℕ → Bool → Progress
progress o n b = record { output = o; last = n; over = b }

-- the next line
abbrev pub line_done : LineConverted → Progress → Progress
line_done c p =
    cond (c.refusal == 0) (progress (printed (lines_text c.lines) p.output) (next p.last) false)
    (progress (printed (refused_line c.refusal (next p.last)) p.output) (next p.last) true)

unfoldable pub lines_done : Way → List (List ℕ) → Progress → Progress
lines_done w [] p = p
lines_done w (s ∷ l) p = cond p.over p (lines_done w l (line_done (converted_by w s) p))

-- the refusal that ends the work, by its number; 0 where no line is refused
unfoldable pub refused_with : Way → List (List ℕ) → ℕ
refused_with w [] = 0
refused_with w (s ∷ l) = cond ((converted_by w s).refusal == 0) (refused_with w l) (converted_by w s).refusal

-- ---- a block of input

-- the lines that end in it, and where the rest begins; nothing is left once the work is over
pub record BlockDone : Type 0 where
  pub progress : Progress
  pub rest : ℕ

abbrev pub block_done : Progress → ℕ → BlockDone
block_done p r = record { progress = p; rest = r }

abbrev pub block_from : Way → List ℕ → Progress → BlockDone
block_from w t p = block_done (lines_done w (ended_lines t) p) (cond (lines_done w (ended_lines t) p).over (length t) (size_of (ended_lines t)))

-- where the rest begins, as the code answers
abbrev pub rest_by : List ℕ → Result ℕ Refusal → ℕ
rest_by t (Ok r) = r
rest_by t (Err r) = length t

-- ---- an exchange of the loop

-- no record and no frame has as many bytes, so an unended line that is cut there stays refused
abbrev pub most_kept : ℕ
most_kept = 515

pub record ExchangeDone : Type 0 where
  pub progress : Progress
  pub kept : List ℕ

abbrev pub exchange_done : Progress → List ℕ → ExchangeDone
exchange_done p t = record { progress = p; kept = t }

-- what is lent, to be filled from its start
abbrev pub from_start : Writer → Output
from_start o = output o.buffer.now 0

-- on the bytes that are there
abbrev pub exchange_from : Way → List ℕ → Progress → ExchangeDone
exchange_from w t p = exchange_done (block_from w t p).progress (take most_kept (drop (block_from w t p).rest t))

-- the room that it needs for so many bytes: no line gives more than two for each of its own, its newline counted, and one is refused
-- at most, whose line has 13
abbrev pub room_needed : ℕ → ℕ
room_needed n = 2 * n + 13

-- before the first of them: nothing is there, and no line has been converted
abbrev pub conversion_start : ConversionState
conversion_start = record { end = 0; last = 0 }
