use Rattle.step_pending.proofs.TimerLaws.{first_counts, first_stays}
use Rattle.std.proofs.Common.{rules}
use Rattle.step_pending.proofs.timers.count1.Goals as goal

pub returns-then-counts1 : goal.returns-then-counts1
returns-then-counts1 c = search (rules, first_counts)

pub returns-else-counts1 : goal.returns-else-counts1
returns-else-counts1 c = search (rules, first_stays)
