use Rattle.access.proofs.AccessLaws.{store_held, store_past}
use Rattle.std.proofs.Common.{rules}
use Rattle.access.proofs.accesses.store_noted.Goals as goal

pub returns-then-pa-bytes : goal.returns-then-pa-bytes
returns-then-pa-bytes c = search (rules, store_held)

pub returns-else-pa-bytes : goal.returns-else-pa-bytes
returns-else-pa-bytes c = search (rules, store_past)
