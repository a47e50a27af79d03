use Rattle.datapath_moves.proofs.FillLaws.{filling_begun, filling_end, filling_enough, filling_more, filling_fault}
use Rattle.access.specs.Followed.{regime_for}
use Rattle.datapath_moves.proofs.filling.fill.Goals as goal

pub loop-n-init : goal.loop-n-init
loop-n-init c = filling_begun _ _ _ _ _ _

pub loop-n-preserved : goal.loop-n-preserved
loop-n-preserved c = filling_more (regime_for c.args.stb c.args.user c.args.translated) c.args.target c.args.m.now c.args.journal.now c.args.q.now c.args.r.now _ _ _ _ _ _ c.loop-n.invariant c.loop-n-test.true _ c.may_fill.ensures c.if-may_fill.true _ _ _ _ _ c.fill_quad-x.ensures c.if-x-ge-EXCEPTION.false c.fill_quad-x.auto.m

pub returns-after-loop-n : goal.returns-after-loop-n
returns-after-loop-n c = filling_end (regime_for c.args.stb c.args.user c.args.translated) c.args.target c.args.m.now c.args.journal.now c.args.q.now c.args.r.now _ _ _ _ _ _ c.loop-n.invariant c.loop-n-test.false

pub returns-then-x-ge-EXCEPTION : goal.returns-then-x-ge-EXCEPTION
returns-then-x-ge-EXCEPTION c = filling_fault (regime_for c.args.stb c.args.user c.args.translated) c.args.target c.args.m.now c.args.journal.now c.args.q.now c.args.r.now _ _ _ _ _ _ c.loop-n.invariant c.loop-n-test.true _ c.may_fill.ensures c.if-may_fill.true _ _ _ _ _ c.fill_quad-x.ensures c.if-x-ge-EXCEPTION.true

pub returns-else-may_fill : goal.returns-else-may_fill
returns-else-may_fill c = filling_enough (regime_for c.args.stb c.args.user c.args.translated) c.args.target c.args.m.now c.args.journal.now c.args.q.now c.args.r.now _ _ _ _ _ _ c.loop-n.invariant c.loop-n-test.true _ c.may_fill.ensures c.if-may_fill.false
