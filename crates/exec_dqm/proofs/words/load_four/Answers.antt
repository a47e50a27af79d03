use Rattle.exec_dqm.specs.Words.{loading}
use Rattle.word.specs.Sums.{plus_of}
use Prim.Native.Nat.{ℕ}
use Rattle.exec_dqm.proofs.WordLaws.{pair_at}
use Rattle.exec_operands.proofs.RestLaws.{rest_faults, rest_goes}
use Rattle.machine.specs.Status.{cpu}
use mathlib.Core.Path.{ap, ◌∙◌}
use Rattle.access_spec.specs.Journal.{journaled}
use Rattle.exec_dqm.proofs.words.load_four.Goals as goal

pub returns-then-p-ge-EXCEPTION : goal.returns-then-p-ge-EXCEPTION
returns-then-p-ge-EXCEPTION c = (λ f. rest_faults c.args.r.now _ c.args.q.now _ _ (journaled c.args.m.now c.args.journal.now) _ (λ k y. loading k (plus_of (plus_of c.args.a 4) 4) (λ m n. f c.load_pair-p.result.w0 y m n)) (c.load_pair-p.ensures.0 (λ x y. loading (cpu c.args.r.now c.args.q.now) (plus_of (plus_of c.args.a 4) 4) (λ m n. f x y m n))) (λ y. f 0 0 0 y) c.if-p-ge-EXCEPTION.true, c.load_pair-p.ensures.1)

pub returns-else-p-ge-EXCEPTION : goal.returns-else-p-ge-EXCEPTION
returns-else-p-ge-EXCEPTION c = (λ f. rest_goes c.args.r.now _ c.args.q.now _ _ (journaled c.args.m.now c.args.journal.now) _ (λ k y. loading k (plus_of (plus_of c.args.a 4) 4) (λ m n. f c.load_pair-p.result.w0 y m n)) (c.load_pair-p.ensures.0 (λ x y. loading (cpu c.args.r.now c.args.q.now) (plus_of (plus_of c.args.a 4) 4) (λ m n. f x y m n))) c.if-p-ge-EXCEPTION.false (c.load_pair-p.ensures.1 c.if-p-ge-EXCEPTION.false) _ c.low32-l.ensures _ (pair_at _ _ _ (c.plus-else-p-ge-EXCEPTION.ensures ∙ ap (λ (y : ℕ). plus_of y 4) c.plus.ensures) _ _ _ (c.load_pair-s.ensures.0 (λ m n. f c.load_pair-p.result.w0 c.low32-l.result m n))), λ h. c.load_pair-s.ensures.1 h ∙ c.load_pair-p.ensures.1 c.if-p-ge-EXCEPTION.false)
