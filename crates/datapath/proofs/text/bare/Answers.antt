use Rattle.datapath.proofs.OperandLaws.{bare_one, bare_three, bare_five}
use Rattle.std.proofs.Common.{rules}
use Rattle.datapath.proofs.text.bare.Goals as goal

pub returns-then-form-lt2 : goal.returns-then-form-lt2
returns-then-form-lt2 c = search (rules, bare_one)

pub returns-then-form-lt3 : goal.returns-then-form-lt3
returns-then-form-lt3 c = search (rules, bare_three)

pub returns : goal.returns
returns c = search (rules, bare_five)
