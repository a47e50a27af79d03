use Rattle.exec_registers.proofs.FrameLaws.{returned_to_isp, returned_to_sp}
use Rattle.std.proofs.Common.{rules}
use Rattle.exec_registers.proofs.event_frames.returned.Goals as goal

pub returns-then-sp_current : goal.returns-then-sp_current
returns-then-sp_current c = search (rules, returned_to_sp)

pub returns-else-sp_current : goal.returns-else-sp_current
returns-else-sp_current c = search (rules, returned_to_isp)
