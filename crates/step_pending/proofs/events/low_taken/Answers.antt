use Rattle.step_pending.proofs.TakenLaws.{takes_trace, takes_zero}
use Rattle.std.proofs.Common.{rules}
use Rattle.step_pending.proofs.events.low_taken.Goals as goal

pub returns-then-code-eq-TRACE : goal.returns-then-code-eq-TRACE
returns-then-code-eq-TRACE c = search (rules, takes_trace)

pub returns-else-code-eq-TRACE : goal.returns-else-code-eq-TRACE
returns-else-code-eq-TRACE c = search (rules, takes_zero)
