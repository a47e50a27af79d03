use Rattle.datapath.proofs.OperandLaws.{prefixed_one, prefixed_three, prefixed_five}
use Rattle.std.proofs.Common.{rules}
use Rattle.datapath.proofs.text.prefixed.Goals as goal

pub returns-then-form-lt2 : goal.returns-then-form-lt2
returns-then-form-lt2 c = search (rules, prefixed_one)

pub returns-then-form-lt3 : goal.returns-then-form-lt3
returns-then-form-lt3 c = search (rules, prefixed_three)

pub returns : goal.returns
returns c = search (rules, prefixed_five)
