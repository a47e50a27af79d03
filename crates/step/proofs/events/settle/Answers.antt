use Rattle.step.proofs.EventLaws.{settled_reset, settled_done}
use Rattle.step.proofs.events.settle.Goals as goal

pub returns-then-x-ge-EXCEPTION : goal.returns-then-x-ge-EXCEPTION
returns-then-x-ge-EXCEPTION c = λ q. settled_reset c.args.r.now q c.args.x c.if-x-ge-EXCEPTION.true _ c.reset.ensures

pub returns-else-x-ge-EXCEPTION : goal.returns-else-x-ge-EXCEPTION
returns-else-x-ge-EXCEPTION c = λ q. settled_done c.args.r.now q c.args.x c.if-x-ge-EXCEPTION.false
