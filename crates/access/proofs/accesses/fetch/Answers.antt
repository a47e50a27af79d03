use Rattle.access.proofs.AccessLaws.{fetch_virtual, fetch_physical}
use Rattle.std.proofs.Common.{rules}
use Rattle.access.proofs.accesses.fetch.Goals as goal

pub returns-then-translated : goal.returns-then-translated
returns-then-translated c = search (rules, fetch_virtual)

pub returns-else-translated : goal.returns-else-translated
returns-else-translated c = search (rules, fetch_physical)
