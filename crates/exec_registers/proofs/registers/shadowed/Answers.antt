use Rattle.exec_registers.proofs.RegisterLaws.{shadow_follows, shadow_stays}
use Rattle.std.proofs.Common.{rules}
use Rattle.exec_registers.proofs.registers.shadowed.Goals as goal

pub returns-then-k-csp : goal.returns-then-k-csp
returns-then-k-csp c = search (rules, shadow_follows)

pub returns-else-k-csp : goal.returns-else-k-csp
returns-else-k-csp c = search (rules, shadow_stays)
