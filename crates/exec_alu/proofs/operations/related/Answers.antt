use Rattle.exec_alu.proofs.ResultLaws.{relates}
use Rattle.std.proofs.Common.{rules}
use Rattle.exec_alu.proofs.operations.related.Goals as goal

pub returns-in-Equal : goal.returns-in-Equal
returns-in-Equal c = search (rules, relates)

pub returns-in-Greater : goal.returns-in-Greater
returns-in-Greater c = search (rules, relates)

pub returns-in-Higher : goal.returns-in-Higher
returns-in-Higher c = search (rules, relates)
