use Rattle.machine.proofs.TestLaws.{both}
use Rattle.std.proofs.Common.{rules}
use Rattle.machine.proofs.status.cache_on.Goals as goal

pub returns : goal.returns
returns c = search (rules, both)
