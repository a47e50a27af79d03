use Rattle.step_pending.proofs.EventLaws.{due_first, due_level, due_nmi, due_none, due_timer1, due_timer2, due_trace}
use Rattle.std.proofs.Common.{rules}
use Rattle.step_pending.proofs.events.find_due.Goals as goal

pub returns-then-level-b : goal.returns-then-level-b
returns-then-level-b c = search (rules, due_nmi)

pub returns-then-level-p : goal.returns-then-level-p
returns-then-level-p c = search (rules, due_first)

pub returns-then-b-p : goal.returns-then-b-p
returns-then-b-p c = search (rules, due_timer1)

pub returns-then-b-p-2 : goal.returns-then-b-p-2
returns-then-b-p-2 c = search (rules, due_timer2)

pub returns-then-level-p-2 : goal.returns-then-level-p-2
returns-then-level-p-2 c = search (rules, due_level)

pub returns-then-b-eq1 : goal.returns-then-b-eq1
returns-then-b-eq1 c = search (rules, due_trace)

pub returns-else-b-eq1 : goal.returns-else-b-eq1
returns-else-b-eq1 c = search (rules, due_none)
