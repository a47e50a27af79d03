use Rattle.word.proofs.SumLaws.{rest_by_zero}
use Rattle.std.proofs.Common.{rules}
use Rattle.word.proofs.products.urem.Goals as goal

pub returns-then-a-eq0 : goal.returns-then-a-eq0
returns-then-a-eq0 c = search (rules, rest_by_zero)
