use mathlib.Core.Path.{refl}
use Rattle.machine.proofs.registers.stack_held.Goals as goal

pub returns : goal.returns
returns c = refl
