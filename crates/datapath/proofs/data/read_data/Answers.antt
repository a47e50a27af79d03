use Rattle.datapath.proofs.DataLaws.{data_cached, data_memory}
use Rattle.std.proofs.Common.{rules}
use Rattle.datapath.proofs.data.read_data.Goals as goal

pub returns-then-cached : goal.returns-then-cached
returns-then-cached c = search (rules, data_cached)

pub returns-else-cached : goal.returns-else-cached
returns-else-cached c = search (rules, data_memory)
