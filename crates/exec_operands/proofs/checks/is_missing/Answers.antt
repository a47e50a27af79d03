use Rattle.exec_operands.proofs.CheckLaws.{missing_register}
use mathlib.Core.Path.{refl}
use Rattle.exec_operands.proofs.checks.is_missing.Goals as goal

pub returns-in-General : goal.returns-in-General
returns-in-General c = rw c.in-General.is refl

pub returns-in-Register : goal.returns-in-Register
returns-in-Register c = missing_register _ _ _ c.in-Register.is c.register_of.ensures
