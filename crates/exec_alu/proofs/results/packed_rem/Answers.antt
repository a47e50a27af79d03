use Rattle.exec_alu.proofs.ResultLaws.{left_over}
use Rattle.std.proofs.Common.{rules}
use Rattle.exec_alu.proofs.results.packed_rem.Goals as goal

pub returns : goal.returns
returns c = search (rules, left_over)
