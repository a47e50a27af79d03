use Rattle.exec_registers.proofs.FlowLaws.{address_by_isp, address_by_sp}
use Rattle.std.proofs.Common.{rules}
use Rattle.exec_registers.proofs.flow.stack_address.Goals as goal

pub returns-then-sp_current : goal.returns-then-sp_current
returns-then-sp_current c = search (rules, address_by_sp)

pub returns-else-sp_current : goal.returns-else-sp_current
returns-else-sp_current c = search (rules, address_by_isp)
