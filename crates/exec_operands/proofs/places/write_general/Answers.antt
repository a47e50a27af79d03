use Rattle.exec_operands.proofs.WriteLaws.{constant_written, memory_written}
use Rattle.access_spec.specs.Journal.{journaled}
use Rattle.exec_operands.proofs.places.write_general.Goals as goal

pub returns-then-is_constant : goal.returns-then-is_constant
returns-then-is_constant c = constant_written c.args.r.now c.args.r.now c.args.q.now c.args.q.now c.args.mode c.args.held c.args.a c.args.v _ _ c.is_constant.ensures (journaled c.args.m.now c.args.journal.now) (journaled c.args.m.now c.args.journal.now) c.if-is_constant.true c.good.ensures

pub returns-else-is_constant : goal.returns-else-is_constant
returns-else-is_constant c = memory_written c.args.r.now _ c.args.q.now _ c.args.mode c.args.held c.args.a c.args.v _ _ c.is_constant.ensures (journaled c.args.m.now c.args.journal.now) _ c.if-is_constant.false _ c.width_of.ensures c.store.ensures
