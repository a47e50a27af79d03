use Rattle.step_pending.proofs.EventLaws.{looks_other, looks_same}
use Rattle.std.proofs.Common.{rules}
use Rattle.step_pending.proofs.events.looked.Goals as goal

pub returns-then-level-ne0 : goal.returns-then-level-ne0
returns-then-level-ne0 c = search (rules, looks_other)

pub returns-else-level-ne0 : goal.returns-else-level-ne0
returns-else-level-ne0 c = search (rules, looks_same)
