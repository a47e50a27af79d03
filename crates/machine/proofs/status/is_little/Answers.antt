use Rattle.machine.proofs.TestLaws.{test_held, test_failed}
use Rattle.std.proofs.Common.{rules}
use Rattle.machine.proofs.status.is_little.Goals as goal

pub returns-then-is_user : goal.returns-then-is_user
returns-then-is_user c = search (rules, test_held, test_failed)

pub returns-else-is_user : goal.returns-else-is_user
returns-else-is_user c = search (rules, test_held, test_failed)
