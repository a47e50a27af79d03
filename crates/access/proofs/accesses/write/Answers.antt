use Rattle.access.proofs.AccessLaws.{write_virtual, write_physical, write_odd}
use Rattle.std.proofs.Common.{rules}
use Rattle.access.proofs.accesses.write.Goals as goal

pub returns-then-translated : goal.returns-then-translated
returns-then-translated c = search (rules, write_virtual)

pub returns-else-translated : goal.returns-else-translated
returns-else-translated c = search (rules, write_physical)

pub returns-else-aligned : goal.returns-else-aligned
returns-else-aligned c = search (rules, write_odd)
