use Rattle.exec_operands.proofs.WriteLaws.{general_written, register_written_law}
use Rattle.access_spec.specs.Journal.{journaled}
use Rattle.exec_operands.proofs.places.write_at.Goals as goal

pub returns-in-General : goal.returns-in-General
returns-in-General c = general_written c.args.r.now _ c.args.q.now _ c.args.o c.args.a c.args.v c.write_general.result (journaled c.args.m.now c.args.journal.now) _ c.in-General.mode c.in-General.x c.in-General.is c.write_general.ensures

pub returns-in-Register : goal.returns-in-Register
returns-in-Register c = register_written_law c.args.r.now _ c.args.q.now c.args.q.now c.args.o c.args.a c.args.v _ (journaled c.args.m.now c.args.journal.now) (journaled c.args.m.now c.args.journal.now) _ _ c.in-Register.is c.register_of.ensures c.write_register.ensures c.good.ensures
