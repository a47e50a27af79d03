use Rattle.exec_alu.proofs.ResultLaws.{tagged_minus, tagged_plus}
use Rattle.std.proofs.Common.{rules}
use Rattle.exec_alu.proofs.operations.tagged.Goals as goal

pub returns-then-minus : goal.returns-then-minus
returns-then-minus c = search (rules, tagged_minus)

pub returns-else-minus : goal.returns-else-minus
returns-else-minus c = search (rules, tagged_plus)
