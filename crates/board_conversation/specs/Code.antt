-- The board and the printout of the code, before and after a line.
-- Assumes nothing.
use Rattle.std.specs.Prelude.{ℕ, List}
use Rattle.access_spec.specs.Clauses.{Lent}
use Rattle.machine.specs.Registers.{Bank}
use Rattle.machine.specs.Cache.{Cache}
use Rattle.machine.specs.Status.{Cpu}
use Rattle.datapath.specs.Clauses.{entry_cpu, exit_cpu}
use Rattle.run_spec.specs.Run.{Board, board}
use Rattle.hex_digits.specs.Output.{output}
use Rattle.board_lines.specs.declared.Printer.{Printer}
use Rattle.board_lines.specs.Printouts.{Printout, printout, printout_of, tallied}
use Rattle.board_conversation.specs.Conversation.{Answered, line_answer}

-- a board, and the lent buffer that answers go to with the totals of those that went there
pub record BoardIo : Type 0 where
  pub board : Board
  pub printout : Printout

abbrev pub board_io : Board → Printout → BoardIo
board_io b o = record { board = b; printout = o }

-- those of a machine, its memory and a printout
abbrev pub board_io_of : Cpu → List ℕ → Printer → BoardIo
board_io_of c m p = board_io (board c m) (printout_of p)

-- those of lent ones, as they were and as they are left
abbrev pub entry_io : Lent (List ℕ) → Lent Cache → Lent Bank → Lent Printer → BoardIo
entry_io m q r p = board_io_of (entry_cpu q r) m.entry.now p.entry.now

abbrev pub exit_io : Lent (List ℕ) → Lent Cache → Lent Bank → Lent Printer → BoardIo
exit_io m q r p = board_io_of (exit_cpu q r) m.exit.now p.exit.now

-- as they were, but the buffer is filled from its start again
abbrev pub cleared : Printout → Printout
cleared p = printout (output p.output.bytes 0) p.tally

abbrev pub cleared_io : Lent (List ℕ) → Lent Cache → Lent Bank → Lent Printer → BoardIo
cleared_io m q r p = board_io (board (entry_cpu q r) m.entry.now) (cleared (printout_of p.entry.now))

-- an answer put on the board and the buffer
abbrev pub printed_on : Answered → Printout → BoardIo
printed_on a o = board_io a.board (tallied a.printed o)

-- line n answered on a board
abbrev pub line_on : ℕ → List ℕ → BoardIo → BoardIo
line_on n s d = printed_on (line_answer n s d.board) d.printout
