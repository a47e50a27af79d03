use Rattle.exec_alu.proofs.ResultLaws.{divided}
use Rattle.std.proofs.Common.{rules}
use Rattle.exec_alu.proofs.results.packed_div.Goals as goal

pub returns : goal.returns
returns c = search (rules, divided)
