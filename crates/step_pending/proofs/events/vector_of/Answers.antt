use Rattle.step_pending.proofs.TakenLaws.{vector_trace, vector_zero, vector_high}
use Rattle.std.proofs.Common.{rules}
use Rattle.step_pending.proofs.events.vector_of.Goals as goal

pub returns-then-k-eq-TRACE : goal.returns-then-k-eq-TRACE
returns-then-k-eq-TRACE c = search (rules, vector_trace)

pub returns-else-k-eq-TRACE : goal.returns-else-k-eq-TRACE
returns-else-k-eq-TRACE c = search (rules, vector_zero)

pub returns-else-k-lt-INTERRUPT : goal.returns-else-k-lt-INTERRUPT
returns-else-k-lt-INTERRUPT c = search (rules, vector_high)
