-- What it means to hold a machine: thirteen registers. A function that is given a machine m finds
-- the premise in `c.good` of its parameters, one that is returned a machine in `.ok` of the call.
-- Assumes nothing.
use mathlib.Core.Path.{◌≡◌}
use mathlib.Core.List.{List}
use lib.ListN.{length}
use mir.Val.{Val}
use denote.Laws.{Is}
use Rattle.machine.specs.declared.Machine.{Machine}
use Rattle.machine.specs.contracts.Machine.{the_row}

pub registers_13 : (m : Machine) (vs : List Val) → Is the_row m vs → length m.registers ≡ 13
registers_13 m vs p = p.1.1.0.1.0.1
