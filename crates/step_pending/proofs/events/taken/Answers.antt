use Rattle.step_pending.proofs.TakenLaws.{takes_level, takes_timer1, takes_timer2}
use Rattle.std.proofs.Common.{rules}
use Rattle.step_pending.proofs.events.taken.Goals as goal

pub returns-then-code-eq-TIMER1 : goal.returns-then-code-eq-TIMER1
returns-then-code-eq-TIMER1 c = search (rules, takes_timer1)

pub returns-then-code-eq-TIMER2 : goal.returns-then-code-eq-TIMER2
returns-then-code-eq-TIMER2 c = search (rules, takes_timer2)

pub returns-else-code-le-INTERRUPT : goal.returns-else-code-le-INTERRUPT
returns-else-code-le-INTERRUPT c = search (rules, takes_level)
