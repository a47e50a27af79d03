use mathlib.Core.Path.{refl}
use Rattle.exec_dqm.proofs.quads.is_double.Goals as goal

pub returns-in-General : goal.returns-in-General
returns-in-General c = rw c.in-General.is c.is_double_mode.ensures

pub returns-in-Register : goal.returns-in-Register
returns-in-Register c = rw c.in-Register.is refl
