use Rattle.exec_spec.specs.Dyadic.{accumulate_with}
use Rattle.exec_spec.specs.Dyadic.{accumulate}
use Rattle.exec_operands.proofs.RestLaws.{rest_stops, rest_goes}
use Rattle.machine.specs.Status.{cpu}
use Rattle.access_spec.specs.Journal.{journaled}
use Rattle.exec_dyadic.proofs.results.accumulate.Goals as goal

pub returns-then-b-ge-EXCEPTION : goal.returns-then-b-ge-EXCEPTION
unfolding accumulate
returns-then-b-ge-EXCEPTION c = rest_stops c.args.r.now _ c.args.q.now _ _ (journaled c.args.m.now c.args.journal.now) _ (λ k y. accumulate_with k c.args.op c.read_both-b.result.source y) (c.read_both-b.ensures.0 (λ x p y. accumulate_with (cpu c.args.r.now c.args.q.now) c.args.op x y)) c.if-b-ge-EXCEPTION.true

pub returns-else-b-ge-EXCEPTION : goal.returns-else-b-ge-EXCEPTION
unfolding accumulate
returns-else-b-ge-EXCEPTION c = rest_goes c.args.r.now _ c.args.q.now _ _ (journaled c.args.m.now c.args.journal.now) _ (λ k y. accumulate_with k c.args.op c.read_both-b.result.source y) (c.read_both-b.ensures.0 (λ x p y. accumulate_with (cpu c.args.r.now c.args.q.now) c.args.op x y)) c.if-b-ge-EXCEPTION.false (c.read_both-b.ensures.1 c.if-b-ge-EXCEPTION.false) _ c.low32.ensures _ c.accumulate_with.ensures
