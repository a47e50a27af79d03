use Rattle.machine.proofs.TestLaws.{test_held, test_failed}
use Rattle.std.proofs.Common.{rules}
use Rattle.machine.proofs.status.csp.Goals as goal

pub returns-then-sp_current : goal.returns-then-sp_current
returns-then-sp_current c = search (rules, test_held, test_failed)

pub returns-else-sp_current : goal.returns-else-sp_current
returns-else-sp_current c = search (rules, test_held, test_failed)
