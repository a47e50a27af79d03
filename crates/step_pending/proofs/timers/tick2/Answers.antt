use Rattle.step_pending.proofs.TimerLaws.{goes_on, overflows}
use Rattle.std.proofs.Common.{rules}
use Rattle.step_pending.proofs.timers.tick2.Goals as goal

pub returns-then-n-on : goal.returns-then-n-on
returns-then-n-on c = search (rules, overflows)

pub returns-else-n-on : goal.returns-else-n-on
returns-else-n-on c = search (rules, goes_on)
