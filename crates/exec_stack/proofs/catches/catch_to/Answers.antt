use Rattle.exec_stack.proofs.CatchLaws.{fill_stopped, check_stopped, caught}
use Rattle.access.specs.Followed.{regime_for}
use Rattle.access_spec.specs.Journal.{journaled}
use Rattle.exec_stack.proofs.catches.catch_to.Goals as goal

pub returns-then-x-ge-EXCEPTION : goal.returns-then-x-ge-EXCEPTION
returns-then-x-ge-EXCEPTION c = fill_stopped c.args.r.now c.args.q.now (regime_for c.args.stb c.args.user c.args.translated) c.args.target _ _ _ (journaled c.args.m.now c.args.journal.now) _ c.fill-x.ensures c.if-x-ge-EXCEPTION.true

pub returns-then-y-ge-EXCEPTION : goal.returns-then-y-ge-EXCEPTION
returns-then-y-ge-EXCEPTION c = check_stopped c.args.r.now c.args.q.now (regime_for c.args.stb c.args.user c.args.translated) c.args.target _ _ _ (journaled c.args.m.now c.args.journal.now) _ c.fill-x.ensures c.if-x-ge-EXCEPTION.false _ _ _ (c.check_msp-y.ensures _ _) c.if-y-ge-EXCEPTION.true

pub returns : goal.returns
returns c = caught c.args.r.now c.args.q.now (regime_for c.args.stb c.args.user c.args.translated) c.args.target _ _ _ (journaled c.args.m.now c.args.journal.now) _ c.fill-x.ensures c.if-x-ge-EXCEPTION.false _ _ _ (c.check_msp-y.ensures _ _) c.if-y-ge-EXCEPTION.false
