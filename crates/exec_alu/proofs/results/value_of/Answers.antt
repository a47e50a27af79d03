use Rattle.exec_alu.proofs.ResultLaws.{value_unpacked}
use lib.Bits.{mask_lt}
use Rattle.std.proofs.Common.{rules}
use Rattle.exec_alu.proofs.results.value_of.Goals as goal

pub overflow_cast-result : goal.overflow_cast-result
overflow_cast-result c = search (rules, mask_lt c.args.w 32)

pub returns : goal.returns
returns c = search (rules, value_unpacked)
