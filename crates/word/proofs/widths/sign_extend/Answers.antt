use Rattle.word.proofs.SumLaws.{shifts_fit, width_extended}
use Rattle.std.proofs.Common.{rules}
use Rattle.word.proofs.widths.sign_extend.Goals as goal

pub overflow_sub-bits : goal.overflow_sub-bits
overflow_sub-bits c = search (rules, shifts_fit)

pub returns : goal.returns
returns c = search (rules, width_extended)
