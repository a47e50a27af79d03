use Rattle.step_pending.proofs.CountLaws.{first_counts}
use Rattle.std.proofs.Common.{rules}
use Rattle.step_pending.proofs.timers.counts1.Goals as goal

pub returns : goal.returns
returns c = search (rules, first_counts)
