use Rattle.exec_operands.proofs.CheckLaws.{privilege_wanted, register_wanted, registers_there}
use Rattle.exec_operands.proofs.checks.check_registers.Goals as goal

pub returns-then-is_user-is_register : goal.returns-then-is_user-is_register
returns-then-is_user-is_register c = λ q. privilege_wanted _ q _ _ _ _ _ _ c.is_user.ensures c.is_register.ensures c.is_register-2.ensures c.if-is_user-is_register.true c.raised.ensures

pub returns-then-is_missing : goal.returns-then-is_missing
returns-then-is_missing c = λ q. register_wanted _ q _ _ _ _ _ _ c.is_user.ensures c.is_register.ensures c.is_register-2.ensures c.if-is_user-is_register.false _ _ c.is_missing.ensures c.is_missing-else-is_user-is_register.ensures c.if-is_missing.true c.raised-then-is_missing.ensures

pub returns-else-is_missing : goal.returns-else-is_missing
returns-else-is_missing c = λ q. registers_there _ q _ _ _ _ _ _ c.is_user.ensures c.is_register.ensures c.is_register-2.ensures c.if-is_user-is_register.false _ _ c.is_missing.ensures c.is_missing-else-is_user-is_register.ensures c.if-is_missing.false c.good.ensures
