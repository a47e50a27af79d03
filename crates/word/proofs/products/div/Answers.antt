use Rattle.word.proofs.SumLaws.{divided}
use Rattle.std.proofs.Common.{rules}
use Rattle.word.proofs.products.div.Goals as goal

pub returns : goal.returns
returns c = search (rules, divided)
