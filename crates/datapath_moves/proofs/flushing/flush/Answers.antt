use Rattle.datapath_moves.proofs.FlushLaws.{flushing_begun, flushing_end, flushing_enough, flushing_more, flushing_fault}
use Rattle.datapath_moves.proofs.flushing.flush.Goals as goal

pub loop-n-init : goal.loop-n-init
loop-n-init c = flushing_begun _ _ _ _ _ _

pub loop-n-preserved : goal.loop-n-preserved
loop-n-preserved c = flushing_more c.args.q.now c.args.all c.args.target c.args.m.now c.args.journal.now c.args.r.now _ _ _ _ _ c.loop-n.invariant c.loop-n-test.true _ c.may_flush.ensures c.if-may_flush.true _ c.minus-a.ensures _ _ _ _ c.flush_quad-x.ensures c.if-x-ge-EXCEPTION.false c.flush_quad-x.auto.m

pub returns-after-loop-n : goal.returns-after-loop-n
returns-after-loop-n c = flushing_end c.args.q.now c.args.all c.args.target c.args.m.now c.args.journal.now c.args.r.now _ _ _ _ _ c.loop-n.invariant c.loop-n-test.false

pub returns-then-x-ge-EXCEPTION : goal.returns-then-x-ge-EXCEPTION
returns-then-x-ge-EXCEPTION c = flushing_fault c.args.q.now c.args.all c.args.target c.args.m.now c.args.journal.now c.args.r.now _ _ _ _ _ c.loop-n.invariant c.loop-n-test.true _ c.may_flush.ensures c.if-may_flush.true _ c.minus-a.ensures _ _ _ _ c.flush_quad-x.ensures c.if-x-ge-EXCEPTION.true

pub returns-else-may_flush : goal.returns-else-may_flush
returns-else-may_flush c = flushing_enough c.args.q.now c.args.all c.args.target c.args.m.now c.args.journal.now c.args.r.now _ _ _ _ _ c.loop-n.invariant c.loop-n-test.true _ c.may_flush.ensures c.if-may_flush.false
