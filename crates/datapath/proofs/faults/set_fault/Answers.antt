use mathlib.Core.Path.{sym}
use Rattle.datapath.proofs.faults.set_fault.Goals as goal

pub returns-then-e : goal.returns-then-e
returns-then-e c = simp (sym c.low32-e.ensures, c.if-e.true)

pub returns-else-e : goal.returns-else-e
returns-else-e c = simp (sym c.low32-e.ensures, c.if-e.false)
