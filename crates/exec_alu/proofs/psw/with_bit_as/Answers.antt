use Rattle.exec_alu.proofs.PswLaws.{taken_fits, bit_laid}
use Rattle.std.proofs.Common.{rules}
use Rattle.exec_alu.proofs.psw.with_bit_as.Goals as goal

pub overflow_sub-result : goal.overflow_sub-result
overflow_sub-result c = search (rules, taken_fits)

pub returns : goal.returns
returns c = search (rules, bit_laid)
