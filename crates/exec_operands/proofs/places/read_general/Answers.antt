use Rattle.exec_operands.proofs.ReadLaws.{constant_read, memory_read}
use mathlib.Core.Path.{refl}
use Rattle.access_spec.specs.Journal.{journaled}
use Rattle.exec_operands.proofs.places.read_general.Goals as goal

pub returns-then-is_constant : goal.returns-then-is_constant
returns-then-is_constant c = (constant_read c.args.r.now c.args.r.now c.args.q.now c.args.mode c.args.v c.args.a _ _ c.is_constant.ensures (journaled c.args.m.now c.args.journal.now) (journaled c.args.m.now c.args.journal.now) c.if-is_constant.true c.good.ensures, λ _. refl)

pub returns-else-is_constant : goal.returns-else-is_constant
returns-else-is_constant c = (memory_read c.args.r.now _ c.args.q.now c.args.mode c.args.v c.args.a _ _ c.is_constant.ensures (journaled c.args.m.now c.args.journal.now) _ c.if-is_constant.false c.read_expanded.ensures.0, c.read_expanded.ensures.1)
