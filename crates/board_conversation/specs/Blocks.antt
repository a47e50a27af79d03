-- A block of input: the lines that end in it, those of them that are answered together, and where the rest begins.
-- Assumes nothing.
use Rattle.std.specs.Prelude.{ℕ, Bool, true, false, cond, ◌&&◌, List, [], ◌∷◌, drop, nat_le, Option, Some, None}
use Rattle.board_lines.specs.declared.Frame.{Frame}
use Rattle.board_lines.specs.declared.Frame.TheVariants.{Set, Store, Run, Confined}
use Rattle.board_lines.specs.Lines.{frame_of}
use Rattle.lines.specs.Texts.{next, last_of, ends_line, ended_lines, size_of}
use Rattle.board_conversation.specs.Code.{BoardIo, line_on}

-- ---- "Answers that are there are written before a run of many steps begins"

-- a write costs less than a fiftieth of as many steps
abbrev pub many_steps : ℕ
many_steps = 4096

abbrev pub is_long_run : Option Frame → Bool
is_long_run (Some (Set place word)) = false
is_long_run (Some (Store address)) = false
is_long_run (Some (Run budget level)) = nat_le many_steps budget
is_long_run (Some (Confined budget level)) = nat_le many_steps budget
is_long_run None = false

-- a line answered on a board, unless it is a long run and others have begun; then it waits
pub record LineAnswered : Type 0 where
  pub board_io : BoardIo
  pub waits : Bool

abbrev pub line_answered : BoardIo → Bool → LineAnswered
line_answered d b = record { board_io = d; waits = b }

abbrev pub answered_unless : Bool → ℕ → List ℕ → BoardIo → LineAnswered
answered_unless begun n s d = cond (begun && is_long_run (frame_of s)) (line_answered d true) (line_answered (line_on n s d) false)

-- of lines that end, those that are answered before a write: up to a long run, unless that is the first (none has begun)
unfoldable pub together : Bool → List (List ℕ) → List (List ℕ)
together begun [] = []
together begun (s ∷ t) = cond (begun && is_long_run (frame_of s)) [] (s ∷ together true t)

-- ---- lines answered

-- lines answered on a board one after the other, the first of them line n
unfoldable pub lines_on : ℕ → List (List ℕ) → BoardIo → BoardIo
lines_on n [] d = d
lines_on n (s ∷ t) d = lines_on (next n) t (line_on n s d)

-- the board and the buffer after lines of a text, the number of the last line, the place at which the rest begins, and whether a line ends
-- in the rest
pub record BlockAnswered : Type 0 where
  pub board_io : BoardIo
  pub last : ℕ
  pub rest : ℕ
  pub more : Bool

abbrev pub block_answered : BoardIo → ℕ → ℕ → Bool → BlockAnswered
block_answered d n r b = record { board_io = d; last = n; rest = r; more = b }

-- these lines of a text, after line n
abbrev pub lines_answered_on : ℕ → List (List ℕ) → List ℕ → BoardIo → BlockAnswered
lines_answered_on n ls t d = block_answered (lines_on (next n) ls d) (last_of n ls) (size_of ls) (ends_line (drop (size_of ls) t))

-- a block after line n: the lines that are answered before the next write
abbrev pub block_on : ℕ → List ℕ → BoardIo → BlockAnswered
block_on n t d = lines_answered_on n (together false (ended_lines t)) t d
