use Rattle.exec_alu.proofs.ResultLaws.{summed}
use Rattle.std.proofs.Common.{rules}
use Rattle.exec_alu.proofs.results.packed_sub.Goals as goal

pub returns : goal.returns
returns c = search (rules, summed)
