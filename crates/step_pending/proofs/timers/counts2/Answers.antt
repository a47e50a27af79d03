use Rattle.step_pending.proofs.CountLaws.{second_counts}
use Rattle.std.proofs.Common.{rules}
use Rattle.step_pending.proofs.timers.counts2.Goals as goal

pub returns : goal.returns
returns c = search (rules, second_counts)
