-- Request (i) of the running code: the stops and codes of runs as `run::running::run_lent` and `hobbit_run` answer them by the
-- contracts that they export, and as 83 lines show them: one line of kind 03 or 04, and all that the board program prints.
-- Assumes nothing.
use Rattle.std.specs.Prelude.{ℕ, ◌<◌, ◌≡◌, Bool, true, false, List, [], length, get_or, Option, Some}
use Rattle.memory.specs.Bytes.{Memory}
use Rattle.machine.specs.Status.{Cpu}
use Rattle.run_spec.specs.Run.{Board, refused, level_not_user, run}
use Rattle.run_spec.specs.declared.Stopped.{Stopped}
use Rattle.hex_digits.specs.Digits.{number_at}
use Rattle.board_lines.specs.declared.Frame.{Frame}
use Rattle.board_lines.specs.declared.Frame.TheVariants.{Run, Confined}
use Rattle.board_lines.specs.Lines.{frame_of}
use Rattle.board_lines.specs.Answers.{stop_place, code_place}
use Rattle.lines.specs.Texts.{lines_of}
use Rattle.board_lines.specs.Totals.{is_run_line}
use Rattle.board_conversation.specs.Conversation.{line_answer, board_program}
use Rattle.hobbit.specs.declared.HobbitAnswer.{HobbitAnswer}
use Rattle.hobbit.specs.Blocks.{Blocks, board_in}
use Rattle.invariants.specs.StopCodes.{RunCodes, RunStops}
use Rattle.isolation_board.specs.Calls.{RunPlaces, RunLent, HobbitRun}

-- `run::running::run_lent`, on a machine and a memory that it was lent
pub record LentStops (confined : Bool) (stop code : ℕ) : Type 0 where
  pub places : RunPlaces
  pub machine : Cpu
  pub memory : Memory
  pub budget : ℕ
  pub level : ℕ
  pub answer : Stopped
  pub machine_left : Cpu
  pub memory_left : Memory
  pub call : RunLent places machine memory confined budget level answer machine_left memory_left
  pub stop_is : answer.stop ≡ stop
  pub code_is : answer.code ≡ code

-- `hobbit_run` of the C interface, on blocks
pub record HobbitStops (confined : Bool) (stop code : ℕ) : Type 0 where
  pub places : RunPlaces
  pub lent : Blocks
  pub budget : ℕ
  pub level : ℕ
  pub answer : HobbitAnswer
  pub left : Blocks
  pub call : HobbitRun places lent confined budget level answer left
  pub stop_is : answer.stop ≡ stop
  pub code_is : answer.code ≡ code

abbrev pub LentCodes : Type 0
LentCodes = (confined : Bool) → RunCodes confined (LentStops confined)

abbrev pub HobbitCodes : Type 0
HobbitCodes = (confined : Bool) → RunCodes confined (HobbitStops confined)

-- of both there are answers: their contracts allow those of the definition
abbrev pub LentAllows : Type 0
LentAllows = RunPlaces → (confined : Bool) (stop code : ℕ) → RunStops confined stop code → LentStops confined stop code

abbrev pub HobbitAllows : Type 0
HobbitAllows =
    RunPlaces → (confined : Bool) (budget level : ℕ) (s : Blocks)
    → HobbitStops confined (run confined budget level (board_in s.registers s.cache s.memory)).stop
    (run confined budget level (board_in s.registers s.cache s.memory)).code

-- a line of the board program: frame 04 for a confined run, frame 03 for another
abbrev pub run_frame : Bool → ℕ → ℕ → Option Frame
run_frame true budget level = Some (Confined budget level)
run_frame false budget level = Some (Run budget level)

pub record PrintedStops (confined : Bool) (stop code : ℕ) : Type 0 where
  pub number : ℕ
  pub line : List ℕ
  pub board : Board
  pub budget : ℕ
  pub level : ℕ
  pub frame : frame_of line ≡ run_frame confined budget level
  pub stop_is : number_at 2 (line_answer number line board).printed stop_place ≡ stop
  pub code_is : number_at 2 (line_answer number line board).printed code_place ≡ code

abbrev pub PrintedCodes : Type 0
PrintedCodes = (confined : Bool) → RunCodes confined (PrintedStops confined)

-- ---- all that the board program prints: whatever is put in, each 83 line has a stop and a code of frame 04's list, which has
-- frame 03's; so no line that it ever prints has code 06

abbrev pub printed_lines : List ℕ → List (List ℕ)
printed_lines input = lines_of (board_program input)

pub record ProgramStops (stop code : ℕ) : Type 0 where
  pub input : List ℕ
  pub place : ℕ
  pub within : place < length (printed_lines input)
  pub ran : is_run_line (get_or (printed_lines input) place []) ≡ true
  pub stop_is : number_at 2 (get_or (printed_lines input) place []) stop_place ≡ stop
  pub code_is : number_at 2 (get_or (printed_lines input) place []) code_place ≡ code

abbrev pub ProgramCodes : Type 0
ProgramCodes = RunCodes true ProgramStops

-- there are such lines: frame 04 on the board as it starts, at kernel level, is refused with 9
abbrev pub ProgramAnswered : Type 0
ProgramAnswered = ProgramStops refused level_not_user
