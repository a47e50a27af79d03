use Rattle.step_pending.proofs.EventLaws.{due_quiet}
use Rattle.std.proofs.Common.{rules}
use Rattle.step_pending.proofs.events.due_code.Goals as goal

pub returns-then-nothing_due : goal.returns-then-nothing_due
returns-then-nothing_due c = search (rules, due_quiet)
