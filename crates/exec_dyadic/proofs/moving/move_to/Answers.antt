use Rattle.exec_spec.specs.Operands.{write_place}
use Rattle.exec_operands.proofs.RestLaws.{part_stops, part_goes}
use Rattle.exec_operands.specs.Code.{place_at}
use Rattle.access_spec.specs.Journal.{journaled}
use Rattle.exec_dyadic.proofs.moving.move_to.Goals as goal

pub returns-then-a-ge-EXCEPTION : goal.returns-then-a-ge-EXCEPTION
returns-then-a-ge-EXCEPTION c = part_stops (place_at c.args.d) c.args.r.now _ c.args.q.now _ _ (journaled c.args.m.now c.args.journal.now) _ c.locate_at-a.ensures.0 (λ k p. write_place k p c.args.v) c.if-a-ge-EXCEPTION.true

pub returns-else-a-ge-EXCEPTION : goal.returns-else-a-ge-EXCEPTION
returns-else-a-ge-EXCEPTION c = part_goes (place_at c.args.d) c.args.r.now _ c.args.q.now _ _ (journaled c.args.m.now c.args.journal.now) _ c.locate_at-a.ensures.0 (λ k p. write_place k p c.args.v) c.if-a-ge-EXCEPTION.false (c.locate_at-a.ensures.1 c.if-a-ge-EXCEPTION.false) _ c.low32.ensures _ c.write_at.ensures
