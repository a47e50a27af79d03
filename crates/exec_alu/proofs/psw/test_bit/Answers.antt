use Rattle.exec_alu.proofs.PswLaws.{bit_tested}
use Rattle.std.proofs.Common.{rules}
use Rattle.exec_alu.proofs.psw.test_bit.Goals as goal

pub returns : goal.returns
returns c = search (rules, bit_tested)
