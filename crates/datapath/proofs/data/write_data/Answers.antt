use Rattle.datapath.proofs.DataLaws.{stored_cached, stored_memory}
use Rattle.std.proofs.Common.{rules}
use Rattle.datapath.proofs.data.write_data.Goals as goal

pub returns-then-cached : goal.returns-then-cached
returns-then-cached c = search (rules, stored_cached)

pub returns-else-cached : goal.returns-else-cached
returns-else-cached c = search (rules, stored_memory)
