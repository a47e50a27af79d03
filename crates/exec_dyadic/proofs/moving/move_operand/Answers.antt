use Rattle.exec_spec.specs.Operands.{write_place}
use Rattle.exec_spec.specs.Dyadic.{move}
use Rattle.exec_operands.proofs.RestLaws.{rest_stops, rest_goes}
use Rattle.exec_operands.specs.Code.{place_at}
use Rattle.machine.specs.Status.{cpu}
use Rattle.access_spec.specs.Journal.{journaled}
use Rattle.exec_dyadic.proofs.moving.move_operand.Goals as goal

pub returns-then-f-ge-EXCEPTION : goal.returns-then-f-ge-EXCEPTION
unfolding move
returns-then-f-ge-EXCEPTION c = rest_stops c.args.r.now _ c.args.q.now _ _ (journaled c.args.m.now c.args.journal.now) _ (λ k a. write_place k (place_at c.args.d a) c.find-f.result.source) (c.find-f.ensures.0 (λ x p. write_place (cpu c.args.r.now c.args.q.now) p x)) c.if-f-ge-EXCEPTION.true

pub returns-else-f-ge-EXCEPTION : goal.returns-else-f-ge-EXCEPTION
unfolding move
returns-else-f-ge-EXCEPTION c = rest_goes c.args.r.now _ c.args.q.now _ _ (journaled c.args.m.now c.args.journal.now) _ (λ k a. write_place k (place_at c.args.d a) c.find-f.result.source) (c.find-f.ensures.0 (λ x p. write_place (cpu c.args.r.now c.args.q.now) p x)) c.if-f-ge-EXCEPTION.false (c.find-f.ensures.1 c.if-f-ge-EXCEPTION.false) _ c.low32.ensures _ c.write_at.ensures
