use Rattle.exec_operands.proofs.RestLaws.{part_stops, part_goes}
use Rattle.exec_dyadic.proofs.MoveLaws.{address_moved}
use Rattle.exec_spec.specs.Dyadic.{move_to}
use Rattle.exec_spec.specs.Dyadic.{move_address, place_address}
use Rattle.exec_operands.specs.Code.{place_at}
use Rattle.access_spec.specs.Journal.{journaled}
use Rattle.exec_dyadic.proofs.moving.move_address.Goals as goal

pub returns-then-a-ge-EXCEPTION : goal.returns-then-a-ge-EXCEPTION
unfolding move_address
returns-then-a-ge-EXCEPTION c = part_stops (place_at c.args.s) c.args.r.now _ c.args.q.now _ _ (journaled c.args.m.now c.args.journal.now) _ c.locate_at-a.ensures.0 (λ k p. move_to k c.args.wide c.args.d (place_address p)) c.if-a-ge-EXCEPTION.true

pub returns-else-a-ge-EXCEPTION : goal.returns-else-a-ge-EXCEPTION
unfolding move_address
returns-else-a-ge-EXCEPTION c = part_goes (place_at c.args.s) c.args.r.now _ c.args.q.now _ _ (journaled c.args.m.now c.args.journal.now) _ c.locate_at-a.ensures.0 (λ k p. move_to k c.args.wide c.args.d (place_address p)) c.if-a-ge-EXCEPTION.false (c.locate_at-a.ensures.1 c.if-a-ge-EXCEPTION.false) _ c.low32.ensures _ (address_moved _ _ _ _ _ _ c.address_of.ensures _ c.move_to.ensures)
