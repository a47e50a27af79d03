use Rattle.datapath.proofs.DataLaws.{cached_write, cached_write_odd}
use Rattle.std.proofs.Common.{rules}
use Rattle.datapath.proofs.data.write_cached.Goals as goal

pub returns-then-aligned : goal.returns-then-aligned
returns-then-aligned c = search (rules, cached_write)

pub returns-else-aligned : goal.returns-else-aligned
returns-else-aligned c = search (rules, cached_write_odd)
