use Rattle.step_pending.proofs.TracedLaws.{traces_always, traces_jumps, traces_never}
use Rattle.std.proofs.Common.{rules}
use Rattle.step_pending.proofs.tracing.traces_at.Goals as goal

pub returns-then-class-eq-ALWAYS : goal.returns-then-class-eq-ALWAYS
returns-then-class-eq-ALWAYS c = search (rules, traces_always)

pub returns-then-class-eq-AT_JUMPS : goal.returns-then-class-eq-AT_JUMPS
returns-then-class-eq-AT_JUMPS c = search (rules, traces_jumps)

pub returns-else-class-eq-AT_JUMPS : goal.returns-else-class-eq-AT_JUMPS
returns-else-class-eq-AT_JUMPS c = search (rules, traces_never)
