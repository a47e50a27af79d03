use Rattle.exec_registers.proofs.FlowLaws.{isp_restored, sp_restored}
use Rattle.std.proofs.Common.{rules}
use Rattle.exec_registers.proofs.flow.restored_csp.Goals as goal

pub returns-then-sp_current : goal.returns-then-sp_current
returns-then-sp_current c = search (rules, sp_restored)

pub returns-else-sp_current : goal.returns-else-sp_current
returns-else-sp_current c = search (rules, isp_restored)
