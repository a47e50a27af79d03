use Rattle.exec_dqm.proofs.WordLaws.{pair_fault, pair_loaded}
use mathlib.Core.Path.{◌∙◌}
use Rattle.access_spec.specs.Journal.{journaled}
use Rattle.exec_dqm.proofs.words.load_pair.Goals as goal

pub returns-then-x-ge-EXCEPTION : goal.returns-then-x-ge-EXCEPTION
returns-then-x-ge-EXCEPTION c = (λ f. pair_fault c.args.r.now _ c.args.q.now c.args.a _ (journaled c.args.m.now c.args.journal.now) _ c.load-x.ensures.0 f (λ y. f 0 y) c.if-x-ge-EXCEPTION.true, c.load-x.ensures.1)

pub returns-else-x-ge-EXCEPTION : goal.returns-else-x-ge-EXCEPTION
returns-else-x-ge-EXCEPTION c = (λ f. pair_loaded c.args.r.now _ c.args.q.now c.args.a _ (journaled c.args.m.now c.args.journal.now) _ c.load-x.ensures.0 f c.if-x-ge-EXCEPTION.false (c.load-x.ensures.1 c.if-x-ge-EXCEPTION.false) _ c.low32.ensures _ c.plus.ensures _ _ _ c.load-y.ensures.0, λ h. c.load-y.ensures.1 h ∙ c.load-x.ensures.1 c.if-x-ge-EXCEPTION.false)
