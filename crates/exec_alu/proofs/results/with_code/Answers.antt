use Rattle.exec_alu.proofs.ResultLaws.{code_gets, code_stays}
use Rattle.std.proofs.Common.{rules}
use Rattle.exec_alu.proofs.results.with_code.Goals as goal

pub returns-then-code-eq2 : goal.returns-then-code-eq2
returns-then-code-eq2 c = search (rules, code_stays)

pub returns-else-code-eq2 : goal.returns-else-code-eq2
returns-else-code-eq2 c = search (rules, code_gets)
