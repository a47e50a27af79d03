use Rattle.exec.proofs.ActLaws.{kcall_one}
use Rattle.std.proofs.Common.{rules}
use Rattle.exec.proofs.attempt.is_kcall.Goals as goal

pub returns-in-One : goal.returns-in-One
returns-in-One c = search (rules, kcall_one)
