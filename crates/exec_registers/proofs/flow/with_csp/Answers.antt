use Rattle.exec_registers.proofs.FlowLaws.{csp_is_isp, csp_is_sp}
use Rattle.std.proofs.Common.{rules}
use Rattle.exec_registers.proofs.flow.with_csp.Goals as goal

pub returns-then-sp_current : goal.returns-then-sp_current
returns-then-sp_current c = search (rules, csp_is_sp)

pub returns-else-sp_current : goal.returns-else-sp_current
returns-else-sp_current c = search (rules, csp_is_isp)
