use Rattle.memory.proofs.StoreLaws.{store_1, store_past}
use Rattle.std.proofs.Common.{rules}
use Rattle.memory.proofs.stores.store_byte.Goals as goal

pub returns-then-i-m : goal.returns-then-i-m
returns-then-i-m c = search (rules, store_1)

pub returns-else-i-m : goal.returns-else-i-m
returns-else-i-m c = search (rules, store_past)
