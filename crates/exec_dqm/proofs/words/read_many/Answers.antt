use Rattle.access_spec.specs.Journal.{journaled}
use mathlib.Core.Path.{refl}
use Rattle.exec_dqm.proofs.ManyLaws.{many_scalar, many_double, many_odd, many_quad}
use Rattle.exec_dqm.specs.Words.{words_for}
use Rattle.std.proofs.lemmas.Bool.{not_from_false, not_from_true}
use Rattle.exec_dqm.proofs.words.read_many.Goals as goal

pub returns-then-is_scalar : goal.returns-then-is_scalar
returns-then-is_scalar c = (λ f. many_scalar c.args.r.now c.args.q.now c.args.o c.args.a _ c.is_scalar.ensures c.args.double (journaled c.args.m.now c.args.journal.now) f c.if-is_scalar.true _ _ c.scalar-v.ensures c.good.ensures, λ _. refl)

pub returns-then-not-is_aligned : goal.returns-then-not-is_aligned
returns-then-not-is_aligned c = (λ f. many_odd c.args.r.now c.args.q.now c.args.o c.args.a _ c.is_scalar.ensures c.args.double (journaled c.args.m.now c.args.journal.now) f c.if-is_scalar.false _ c.is_aligned.ensures (not_from_false _ c.if-not-is_aligned.true) (λ y. f (words_for c.args.double 0 0 0 y)) _ c.raised.ensures, λ _. refl)

pub returns-then-double : goal.returns-then-double
returns-then-double c = (λ f. many_double c.args.r.now c.args.q.now c.args.o c.args.a _ c.is_scalar.ensures c.args.double (journaled c.args.m.now c.args.journal.now) f _ c.load_pair.result.answer c.load_pair.result.w0 c.load_pair.result.w1 c.load_pair.result.w2 _ c.if-is_scalar.false _ c.is_aligned.ensures (not_from_true _ c.if-not-is_aligned.false) c.if-double.true c.load_pair.ensures.0, c.load_pair.ensures.1)

pub returns : goal.returns
returns c = (λ f. many_quad c.args.r.now c.args.q.now c.args.o c.args.a _ c.is_scalar.ensures c.args.double (journaled c.args.m.now c.args.journal.now) f _ c.load_four.result.answer c.load_four.result.w0 c.load_four.result.w1 c.load_four.result.w2 _ c.if-is_scalar.false _ c.is_aligned.ensures (not_from_true _ c.if-not-is_aligned.false) c.if-double.false c.load_four.ensures.0, c.load_four.ensures.1)
