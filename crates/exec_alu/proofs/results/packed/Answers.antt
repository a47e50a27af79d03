use Rattle.exec_alu.proofs.ResultLaws.{packed_apart}
use Rattle.std.proofs.Common.{rules}
use Rattle.exec_alu.proofs.results.packed.Goals as goal

pub returns : goal.returns
returns c = search (rules, packed_apart)
