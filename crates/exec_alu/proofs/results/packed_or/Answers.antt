use Rattle.exec_alu.proofs.ResultLaws.{value_alone}
use Rattle.std.proofs.Common.{rules}
use Rattle.exec_alu.proofs.results.packed_or.Goals as goal

pub returns : goal.returns
returns c = search (rules, value_alone)
