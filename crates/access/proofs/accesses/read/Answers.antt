use Rattle.access.proofs.AccessLaws.{read_virtual, read_physical, read_odd}
use Rattle.std.proofs.Common.{rules}
use Rattle.access.proofs.accesses.read.Goals as goal

pub returns-then-translated : goal.returns-then-translated
returns-then-translated c = search (rules, read_virtual)

pub returns-else-translated : goal.returns-else-translated
returns-else-translated c = search (rules, read_physical)

pub returns-else-aligned : goal.returns-else-aligned
returns-else-aligned c = search (rules, read_odd)
