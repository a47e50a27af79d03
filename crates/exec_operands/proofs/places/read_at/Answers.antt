use Rattle.exec_operands.proofs.ReadLaws.{general_read, register_read}
use mathlib.Core.Path.{refl}
use Rattle.access_spec.specs.Journal.{journaled}
use Rattle.exec_operands.proofs.places.read_at.Goals as goal

pub returns-in-General : goal.returns-in-General
returns-in-General c = (general_read c.args.r.now _ c.args.q.now c.args.o c.args.a c.read_general.result (journaled c.args.m.now c.args.journal.now) _ c.in-General.mode c.in-General.v c.in-General.is c.read_general.ensures.0, c.read_general.ensures.1)

pub returns-in-Register : goal.returns-in-Register
returns-in-Register c = (register_read c.args.r.now c.args.r.now c.args.q.now c.args.o c.args.a _ (journaled c.args.m.now c.args.journal.now) (journaled c.args.m.now c.args.journal.now) _ _ _ c.in-Register.is c.register_of.ensures c.word_at.ensures c.good.ensures, λ _. refl)
