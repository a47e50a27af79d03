use mathlib.Core.Path.{refl}
use Rattle.datapath_moves.proofs.flushing.may_flush.Goals as goal

pub returns : goal.returns
returns c = rw c.minus.ensures refl
