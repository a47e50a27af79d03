use Rattle.word.proofs.SumLaws.{multiplied}
use Rattle.std.proofs.Common.{rules}
use Rattle.word.proofs.products.mul.Goals as goal

pub returns : goal.returns
returns c = search (rules, multiplied)
