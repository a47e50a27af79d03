use Rattle.access_spec.specs.Journal.{journaled}
use Rattle.exec_dqm.proofs.ManyLaws.{put_nowhere, put_double, put_odd, put_quad}
use Rattle.std.proofs.lemmas.Bool.{not_from_false, not_from_true}
use Rattle.exec_dqm.proofs.words.write_many.Goals as goal

pub returns-then-is_scalar : goal.returns-then-is_scalar
returns-then-is_scalar c = put_nowhere c.args.r.now c.args.q.now c.args.o c.args.a _ c.is_scalar.ensures c.args.double c.args.w.w0 c.args.w.w1 c.args.w.w2 c.args.y (journaled c.args.m.now c.args.journal.now) c.if-is_scalar.true _ c.good.ensures

pub returns-then-not-is_aligned : goal.returns-then-not-is_aligned
returns-then-not-is_aligned c = put_odd c.args.r.now c.args.q.now c.args.o c.args.a _ c.is_scalar.ensures c.args.double c.args.w.w0 c.args.w.w1 c.args.w.w2 c.args.y (journaled c.args.m.now c.args.journal.now) c.if-is_scalar.false _ c.is_aligned.ensures (not_from_false _ c.if-not-is_aligned.true) _ c.raised.ensures

pub returns-then-double : goal.returns-then-double
returns-then-double c = put_double c.args.r.now c.args.q.now c.args.o c.args.a _ c.is_scalar.ensures c.args.double c.args.w.w0 c.args.w.w1 c.args.w.w2 c.args.y (journaled c.args.m.now c.args.journal.now) _ _ _ _ c.if-is_scalar.false _ c.is_aligned.ensures (not_from_true _ c.if-not-is_aligned.false) c.if-double.true c.store_pair.ensures

pub returns : goal.returns
returns c = put_quad c.args.r.now c.args.q.now c.args.o c.args.a _ c.is_scalar.ensures c.args.double c.args.w.w0 c.args.w.w1 c.args.w.w2 c.args.y (journaled c.args.m.now c.args.journal.now) _ _ _ _ c.if-is_scalar.false _ c.is_aligned.ensures (not_from_true _ c.if-not-is_aligned.false) c.if-double.false c.store_four.ensures
