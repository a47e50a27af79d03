use Rattle.word.proofs.SumLaws.{by_zero}
use Rattle.std.proofs.Common.{rules}
use Rattle.word.proofs.products.udiv.Goals as goal

pub returns-then-a-eq0 : goal.returns-then-a-eq0
returns-then-a-eq0 c = search (rules, by_zero)
