use Rattle.memory.proofs.StoreLaws.{load_2, load_past}
use Rattle.std.proofs.Common.{rules}
use Rattle.memory.proofs.loads.load_half.Goals as goal

pub returns-then-i-m : goal.returns-then-i-m
returns-then-i-m c = search (rules, load_2)

pub returns-else-i-m : goal.returns-else-i-m
returns-else-i-m c = search (rules, load_past)
