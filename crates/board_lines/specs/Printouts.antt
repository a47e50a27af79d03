-- The totals that the code keeps while it prints, line by line, and the buffer that it prints to.
-- Assumes nothing.
use Rattle.std.specs.Prelude.{ℕ, ◌+◌, ◌%◌, ◌^◌, Bool, cond, List, [], ◌∷◌, ◌==◌}
use Rattle.hex_digits.specs.Digits.{number_at}
use Rattle.hex_digits.specs.Output.{Output, has_room, printed, contents}
use Rattle.lines.specs.Texts.{lines_of}
use Rattle.board_lines.specs.Answers.{steps_place, refused_stop}
use Rattle.board_lines.specs.Totals.{Totals, totals, totals_line, is_run_line, is_refused}
pub use Rattle.board_lines.specs.declared.Tally.{Tally}
use Rattle.board_lines.specs.declared.Printer.{Printer}

abbrev pub totals_at : Tally → Totals
totals_at k = totals k.runs k.steps k.refused

abbrev pub tally : ℕ → ℕ → ℕ → Tally
tally runs steps refused = record { runs = runs; steps = steps; refused = refused }

abbrev pub start_tally : Tally
start_tally = tally 0 0 0

-- ---- a line counted, modulo 2^32

abbrev pub run_counted : ℕ → Tally → Tally
run_counted n k = tally ((k.runs + 1) % 2 ^ 32) ((k.steps + n) % 2 ^ 32) k.refused

-- an 82 line
abbrev pub refusal_added : Tally → Tally
refusal_added k = tally k.runs k.steps ((k.refused + 1) % 2 ^ 32)

abbrev pub added_if : Bool → (Tally → Tally) → Tally → Tally
added_if b f k = cond b (f k) k

abbrev pub line_added : List ℕ → Tally → Tally
line_added s k = added_if (is_refused s) refusal_added (added_if (is_run_line s) (run_counted (number_at 8 s steps_place)) k)

-- line after line
unfoldable pub lines_added : List (List ℕ) → Tally → Tally
lines_added [] k = k
lines_added (s ∷ l) k = lines_added l (line_added s k)

-- an 83 line by the numbers in it
abbrev pub run_added : ℕ → ℕ → Tally → Tally
run_added steps stop k = added_if (stop % 256 == refused_stop) refusal_added (run_counted steps k)

-- ---- a lent buffer, filled up to a place, and the totals of all lines printed so far

pub record Printout : Type 0 where
  pub output : Output
  pub tally : Tally

abbrev pub printout : Output → Tally → Printout
printout o k = record { output = o; tally = k }

-- what the code lends and keeps
abbrev pub printout_of : Printer → Printout
printout_of p = printout (contents p.output) p.tally

-- a text printed and its lines counted; one for which there is no room is left out and not counted
unfoldable pub tallied : List ℕ → Printout → Printout
tallied t p = cond (has_room t p.output) (printout (printed t p.output) (lines_added (lines_of t) p.tally)) p

-- the totals under the lines
abbrev pub totalled : Printout → Printout
totalled p = printout (printed (totals_line (totals_at p.tally)) p.output) p.tally
