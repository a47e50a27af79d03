use Rattle.word.proofs.SumLaws.{added}
use Rattle.std.proofs.Common.{rules}
use Rattle.word.proofs.sums.add.Goals as goal

pub returns : goal.returns
returns c = search (rules, added)
