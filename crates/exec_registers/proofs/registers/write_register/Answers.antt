use Rattle.exec_registers.proofs.RegisterLaws.{id_ignored, isp_written, other_written, sp_written}
use Rattle.std.proofs.Common.{rules}
use Rattle.exec_registers.proofs.registers.write_register.Goals as goal

pub returns-then-k-eq-SP_PLACE : goal.returns-then-k-eq-SP_PLACE
returns-then-k-eq-SP_PLACE c = search (rules, sp_written)

pub returns-then-k-eq-ISP_PLACE : goal.returns-then-k-eq-ISP_PLACE
returns-then-k-eq-ISP_PLACE c = search (rules, isp_written)

pub returns-else-k-eq-ISP_PLACE : goal.returns-else-k-eq-ISP_PLACE
returns-else-k-eq-ISP_PLACE c = search (rules, other_written)

pub returns-else-k-ne-ID_PLACE : goal.returns-else-k-ne-ID_PLACE
returns-else-k-ne-ID_PLACE c = search (rules, id_ignored)
