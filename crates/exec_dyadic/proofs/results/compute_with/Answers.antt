use Rattle.exec_spec.specs.Dyadic.{put_result}
use Rattle.exec_spec.specs.Alu.{operate}
use Rattle.exec_dyadic.proofs.ResultLaws.{divisor_zero, divisor_other}
use Rattle.exec_operands.specs.Code.{place_at}
use Rattle.access_spec.specs.Journal.{journaled}
use Rattle.exec_dyadic.proofs.results.compute_with.Goals as goal

pub returns-then-divides-x : goal.returns-then-divides-x
returns-then-divides-x c = divisor_zero c.args.r.now c.args.q.now c.args.op c.args.x (journaled c.args.m.now c.args.journal.now) _ c.divides.ensures (λ k. put_result k (place_at c.args.d c.args.a) (operate c.args.op c.args.y c.args.x)) _ c.if-divides-x.true c.raised.ensures

pub returns-else-divides-x : goal.returns-else-divides-x
returns-else-divides-x c = divisor_other c.args.r.now c.args.q.now c.args.op c.args.x (journaled c.args.m.now c.args.journal.now) _ c.divides.ensures (λ k r. put_result k (place_at c.args.d c.args.a) r) _ _ c.if-divides-x.false c.operate.ensures _ c.put_result.ensures
