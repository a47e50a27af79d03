use Rattle.word.proofs.SumLaws.{extended}
use Rattle.std.proofs.Common.{rules}
use Rattle.word.proofs.widths.extend.Goals as goal

pub returns : goal.returns
returns c = search (rules, extended)
