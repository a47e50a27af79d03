use Rattle.exec_spec.specs.Dyadic.{compute_with}
use Rattle.exec_spec.specs.Dyadic.{compute}
use Rattle.exec_operands.proofs.RestLaws.{rest_stops, rest_goes}
use Rattle.exec_operands.specs.Code.{place_at}
use Rattle.machine.specs.Status.{cpu}
use Rattle.access_spec.specs.Journal.{journaled}
use Rattle.exec_dyadic.proofs.results.compute.Goals as goal

pub returns-then-b-ge-EXCEPTION : goal.returns-then-b-ge-EXCEPTION
unfolding compute
returns-then-b-ge-EXCEPTION c = rest_stops c.args.r.now _ c.args.q.now _ _ (journaled c.args.m.now c.args.journal.now) _ (λ k y. compute_with k c.args.op (place_at c.args.d c.read_both-b.result.address) c.read_both-b.result.source y) (c.read_both-b.ensures.0 (λ x p y. compute_with (cpu c.args.r.now c.args.q.now) c.args.op p x y)) c.if-b-ge-EXCEPTION.true

pub returns-else-b-ge-EXCEPTION : goal.returns-else-b-ge-EXCEPTION
unfolding compute
returns-else-b-ge-EXCEPTION c = rest_goes c.args.r.now _ c.args.q.now _ _ (journaled c.args.m.now c.args.journal.now) _ (λ k y. compute_with k c.args.op (place_at c.args.d c.read_both-b.result.address) c.read_both-b.result.source y) (c.read_both-b.ensures.0 (λ x p y. compute_with (cpu c.args.r.now c.args.q.now) c.args.op p x y)) c.if-b-ge-EXCEPTION.false (c.read_both-b.ensures.1 c.if-b-ge-EXCEPTION.false) _ c.low32.ensures _ c.compute_with.ensures
