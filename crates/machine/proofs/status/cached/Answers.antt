use mathlib.Core.Path.{refl}
use Rattle.machine.proofs.status.cached.Goals as goal

pub returns : goal.returns
returns c = rw c.cache_on.ensures refl
