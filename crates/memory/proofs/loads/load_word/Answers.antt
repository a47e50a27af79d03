use Rattle.memory.proofs.StoreLaws.{load_4, load_past}
use Rattle.std.proofs.Common.{rules}
use Rattle.memory.proofs.loads.load_word.Goals as goal

pub returns-then-i-m : goal.returns-then-i-m
returns-then-i-m c = search (rules, load_4)

pub returns-else-i-m : goal.returns-else-i-m
returns-else-i-m c = search (rules, load_past)
