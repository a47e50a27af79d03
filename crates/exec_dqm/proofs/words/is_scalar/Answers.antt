use Rattle.exec_dqm.proofs.ManyLaws.{scalar_general}
use mathlib.Core.Path.{refl}
use Rattle.exec_dqm.proofs.words.is_scalar.Goals as goal

pub returns-in-General : goal.returns-in-General
returns-in-General c = scalar_general c.args.o c.in-General.mode c.in-General.field-1 _ c.in-General.is c.is_constant.ensures

pub returns-in-Register : goal.returns-in-Register
returns-in-Register c = rw c.in-Register.is refl
