use Rattle.access.proofs.QuadLaws.{shared_found, shared_not}
use Rattle.std.proofs.Common.{rules}
use Rattle.access.proofs.quads.shared.Goals as goal

pub returns-then-shares_walk : goal.returns-then-shares_walk
returns-then-shares_walk c = search (rules, shared_found)

pub returns-else-shares_walk : goal.returns-else-shares_walk
returns-else-shares_walk c = search (rules, shared_not)
