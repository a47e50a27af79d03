use Rattle.exec_dqm.proofs.ManyLaws.{store_stopped, pair_stored}
use Rattle.access_spec.specs.Journal.{journaled}
use Rattle.exec_dqm.proofs.words.store_pair.Goals as goal

pub returns-then-e-ge-EXCEPTION : goal.returns-then-e-ge-EXCEPTION
returns-then-e-ge-EXCEPTION c = λ f. store_stopped c.args.r.now _ c.args.q.now _ c.args.a c.args.x c.args.y _ (journaled c.args.m.now c.args.journal.now) _ c.store-e.ensures f c.if-e-ge-EXCEPTION.true

pub returns-else-e-ge-EXCEPTION : goal.returns-else-e-ge-EXCEPTION
returns-else-e-ge-EXCEPTION c = λ f. pair_stored c.args.r.now _ c.args.q.now _ c.args.a c.args.x c.args.y _ (journaled c.args.m.now c.args.journal.now) _ c.store-e.ensures f c.if-e-ge-EXCEPTION.false _ c.plus.ensures _ _ _ _ c.store.ensures
