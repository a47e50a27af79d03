use Rattle.exec_registers.proofs.FrameLaws.{stored}
use Rattle.std.proofs.Common.{rules}
use Rattle.exec_registers.proofs.status.with_guard.Goals as goal

pub returns : goal.returns
returns c = search (rules, stored)
