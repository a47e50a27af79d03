use Rattle.step_pending.proofs.EventLaws.{trace_set, trace_unset}
use Rattle.std.proofs.Common.{rules}
use Rattle.step_pending.proofs.events.trace_falls.Goals as goal

pub returns-then-on : goal.returns-then-on
returns-then-on c = search (rules, trace_set)

pub returns-else-on : goal.returns-else-on
returns-else-on c = search (rules, trace_unset)
