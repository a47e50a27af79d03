use Rattle.exec_alu.proofs.ResultLaws.{tagged_laid}
use Rattle.std.proofs.Common.{rules}
use Rattle.exec_alu.proofs.operations.tagged_over.Goals as goal

pub returns : goal.returns
returns c = search (rules, tagged_laid)
