use Rattle.word.proofs.SumLaws.{subtracted}
use Rattle.std.proofs.Common.{rules}
use Rattle.word.proofs.sums.sub.Goals as goal

pub returns : goal.returns
returns c = search (rules, subtracted)
