use Rattle.word.proofs.FieldLaws.{cleared_shifted}
use Rattle.std.proofs.Common.{rules}
use Rattle.word.proofs.fields.clear_low.Goals as goal

pub returns : goal.returns
returns c = search (rules, cleared_shifted)
