use Rattle.step_pending.proofs.TimerLaws.{both_counted}
use Rattle.step_pending.proofs.timers.counted.Goals as goal

pub returns : goal.returns
returns c = λ q. both_counted _ _ _ q _ _ _ c.count1.ensures c.count2.ensures
