use Prim.Native.Nat.{ℕ}
use mathlib.Core.Path.{ap}
use lib.Dec.{eqb}
use Rattle.machine.proofs.registers.clean.Goals as goal

pub returns : goal.returns
returns c = ap (λ (n : ℕ). eqb n c.args.v) c.unreserved.ensures
