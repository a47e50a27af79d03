-- The conversation of the board program: a board, lines of input, and what is printed (document 01, "The board program and
-- its frames").
-- Assumes nothing.
use Rattle.std.specs.Prelude.{ℕ, true, false, List, [], ◌∷◌, ◌++◌, replicate, Option, Some, None}
use Rattle.machine.specs.Registers.{pc, psw, Setting, set_register, start_bank}
use Rattle.machine.specs.Status.{cpu, reg}
use Rattle.machine.specs.Record.{zero_cache}
use Rattle.run_spec.specs.Run.{Board, board, RunResult, run}
use Rattle.board_lines.specs.declared.Frame.{Frame}
use Rattle.board_lines.specs.declared.Frame.TheVariants.{Set, Store, Run, Confined}
use Rattle.board_lines.specs.Lines.{frame_of, malformed_line}
use Rattle.board_lines.specs.Stores.{StoreResult, frame_store}
use Rattle.board_lines.specs.Answers.{refused_line, unless_done, ran_line}
use Rattle.lines.specs.Texts.{lines_of, next}
use Rattle.board_lines.specs.Totals.{totals_of, totals_line}

-- the board after a line, and what the line prints
pub record Answered : Type 0 where
  pub board : Board
  pub printed : List ℕ

abbrev pub answered : Board → List ℕ → Answered
answered b t = record { board = b; printed = t }

abbrev pub was_set : ℕ → Board → Setting → Answered
was_set n b t = answered (board (cpu t.bank b.cpu.cache) b.memory) (unless_done n t.refusal)

abbrev pub was_stored : ℕ → Board → StoreResult → Answered
was_stored n b t = answered (board b.cpu t.memory) (unless_done n t.refusal)

abbrev pub has_run : RunResult → Answered
has_run e = answered e.left (ran_line e.steps e.stop e.code (reg e.left.cpu pc) (reg e.left.cpu psw))

-- a frame, in line n; the bytes of frame 02 are the line's
unfoldable pub frame_answer : ℕ → List ℕ → Board → Option Frame → Answered
frame_answer n s b (Some (Set place word)) = was_set n b (set_register b.cpu.bank place word)
frame_answer n s b (Some (Store address)) = was_stored n b (frame_store s b.memory address)
frame_answer n s b (Some (Run budget level)) = has_run (run false budget level b)
frame_answer n s b (Some (Confined budget level)) = has_run (run true budget level b)
frame_answer n s b None = answered b (refused_line malformed_line n)

abbrev pub line_answer : ℕ → List ℕ → Board → Answered
line_answer n s b = frame_answer n s b (frame_of s)

-- ---- a conversation: lines numbered from n on

abbrev pub printed_after : List ℕ → Answered → Answered
printed_after t a = answered a.board (t ++ a.printed)

unfoldable pub conversation : ℕ → List (List ℕ) → Board → Answered
conversation n [] b = answered b []
conversation n (s ∷ t) b = printed_after (line_answer n s b).printed (conversation (next n) t (line_answer n s b).board)

-- ---- "At the end of input the board prints one more line": the totals of what was printed before it (request (b))

abbrev pub with_totals : List ℕ → List ℕ
with_totals t = t ++ totals_line (totals_of (lines_of t))

-- what is printed for an input, by a board
abbrev pub program_on : Board → List ℕ → List ℕ
program_on b input = with_totals (conversation 1 (lines_of input) b).printed

-- ---- the board program: 65,536 zero bytes, ID 0x0000003B, every other register 0, nothing due

abbrev pub start_board : Board
start_board = board (cpu start_bank zero_cache) (replicate 65536 0)

abbrev pub board_program : List ℕ → List ℕ
board_program input = program_on start_board input
