-- The board of lent memory, cache and registers, as it was and as it is left.
-- Assumes nothing.
use Rattle.memory.specs.Bytes.{Memory}
use Rattle.access_spec.specs.Clauses.{Lent}
use Rattle.machine.specs.Registers.{Bank}
use Rattle.machine.specs.Cache.{Cache}
use Rattle.datapath.specs.Clauses.{entry_cpu, exit_cpu}
use Rattle.run_spec.specs.Run.{Board, board}

abbrev pub entry_board : Lent Memory → Lent Cache → Lent Bank → Board
entry_board m q r = board (entry_cpu q r) m.entry.now

abbrev pub exit_board : Lent Memory → Lent Cache → Lent Bank → Board
exit_board m q r = board (exit_cpu q r) m.exit.now
