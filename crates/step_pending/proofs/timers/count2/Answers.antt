use Rattle.step_pending.proofs.TimerLaws.{second_counts, second_stays}
use Rattle.std.proofs.Common.{rules}
use Rattle.step_pending.proofs.timers.count2.Goals as goal

pub returns-then-counts2 : goal.returns-then-counts2
returns-then-counts2 c = search (rules, second_counts)

pub returns-else-counts2 : goal.returns-else-counts2
returns-else-counts2 c = search (rules, second_stays)
