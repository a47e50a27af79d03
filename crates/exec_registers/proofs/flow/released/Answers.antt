use Rattle.exec_registers.proofs.FlowLaws.{msp_follows, msp_stays}
use Rattle.std.proofs.Common.{rules}
use Rattle.exec_registers.proofs.flow.released.Goals as goal

pub returns-then-sp_current-cache_on : goal.returns-then-sp_current-cache_on
returns-then-sp_current-cache_on c = search (rules, msp_follows)

pub returns-else-sp_current-cache_on : goal.returns-else-sp_current-cache_on
returns-else-sp_current-cache_on c = search (rules, msp_stays)
