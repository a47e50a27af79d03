use Rattle.word.specs.Sums.{plus_of}
use Prim.Native.Nat.{ℕ}
use Rattle.exec_dqm.proofs.ManyLaws.{four_stopped, four_stored}
use mathlib.Core.Path.{ap, ◌∙◌}
use Rattle.access_spec.specs.Journal.{journaled}
use Rattle.exec_dqm.proofs.words.store_four.Goals as goal

pub returns-then-e-ge-EXCEPTION : goal.returns-then-e-ge-EXCEPTION
returns-then-e-ge-EXCEPTION c = four_stopped c.args.r.now _ c.args.q.now _ c.args.a c.args.w.w0 c.args.w.w1 c.args.w.w2 c.args.y _ (journaled c.args.m.now c.args.journal.now) _ c.store_pair-e.ensures c.if-e-ge-EXCEPTION.true

pub returns-else-e-ge-EXCEPTION : goal.returns-else-e-ge-EXCEPTION
returns-else-e-ge-EXCEPTION c = four_stored c.args.r.now _ c.args.q.now _ c.args.a c.args.w.w0 c.args.w.w1 c.args.w.w2 c.args.y _ (journaled c.args.m.now c.args.journal.now) _ c.store_pair-e.ensures c.if-e-ge-EXCEPTION.false _ (c.plus-else-e-ge-EXCEPTION.ensures ∙ ap (λ (y : ℕ). plus_of y 4) c.plus.ensures) _ _ _ _ c.store_pair.ensures
