use Rattle.lines.proofs.CarryLaws.{least_is, carried}
use Rattle.lines.proofs.carry.Goals as goal

pub returns : goal.returns
returns c = carried _ _ _ _ _ _ _ (least_is _ _ _ c.min-last.ensures) (least_is _ _ _ c.min-first.ensures) (least_is _ _ _ c.min-count.ensures) _ c.copy_within.ensures.after
