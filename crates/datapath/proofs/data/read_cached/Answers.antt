use Rattle.datapath.proofs.DataLaws.{cached_read, cached_odd}
use Rattle.std.proofs.Common.{rules}
use Rattle.datapath.proofs.data.read_cached.Goals as goal

pub returns-then-aligned : goal.returns-then-aligned
returns-then-aligned c = search (rules, cached_read)

pub returns-else-aligned : goal.returns-else-aligned
returns-else-aligned c = search (rules, cached_odd)
