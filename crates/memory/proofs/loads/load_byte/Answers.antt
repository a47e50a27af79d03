use Rattle.memory.proofs.StoreLaws.{load_1, load_past}
use Rattle.std.proofs.Common.{rules}
use Rattle.memory.proofs.loads.load_byte.Goals as goal

pub returns-then-i-m : goal.returns-then-i-m
returns-then-i-m c = search (rules, load_1)

pub returns-else-i-m : goal.returns-else-i-m
returns-else-i-m c = search (rules, load_past)
