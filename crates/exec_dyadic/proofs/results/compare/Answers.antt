use Rattle.exec_dyadic.proofs.ResultLaws.{compare_done}
use Rattle.exec_operands.proofs.RestLaws.{rest_stops}
use Rattle.exec_spec.specs.Alu.{with_flag, related}
use Rattle.datapath.specs.Parts.{done}
use Rattle.exec_spec.specs.Dyadic.{compare}
use Rattle.machine.specs.Status.{cpu}
use Rattle.access_spec.specs.Journal.{journaled}
use Rattle.exec_dyadic.proofs.results.compare.Goals as goal

pub returns-then-b-ge-EXCEPTION : goal.returns-then-b-ge-EXCEPTION
unfolding compare
returns-then-b-ge-EXCEPTION c = rest_stops c.args.r.now _ c.args.q.now _ _ (journaled c.args.m.now c.args.journal.now) _ (λ k y. done (with_flag k (related c.args.relation c.read_both-b.result.source y))) (c.read_both-b.ensures.0 (λ x p y. done (with_flag (cpu c.args.r.now c.args.q.now) (related c.args.relation x y)))) c.if-b-ge-EXCEPTION.true

pub returns-else-b-ge-EXCEPTION : goal.returns-else-b-ge-EXCEPTION
unfolding compare
returns-else-b-ge-EXCEPTION c = compare_done c.args.r.now _ c.args.q.now _ _ (journaled c.args.m.now c.args.journal.now) _ c.args.relation c.read_both-b.result.source (c.read_both-b.ensures.0 (λ x p y. done (with_flag (cpu c.args.r.now c.args.q.now) (related c.args.relation x y)))) c.if-b-ge-EXCEPTION.false (c.read_both-b.ensures.1 c.if-b-ge-EXCEPTION.false) _ c.low32.ensures _ c.related.ensures _ c.with_flag.ensures _ c.good.ensures
