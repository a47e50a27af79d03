use Rattle.exec_dqm.proofs.ManyLaws.{scalar_register}
use mathlib.Core.Path.{refl}
use Rattle.exec_dqm.proofs.words.scalar.Goals as goal

pub returns-in-General : goal.returns-in-General
returns-in-General c = rw c.in-General.is refl

pub returns-in-Register : goal.returns-in-Register
returns-in-Register c = scalar_register c.args.r.now c.args.o _ _ _ c.in-Register.is c.register_of.ensures c.word_at.ensures
