use Rattle.exec_stack.proofs.ReturnLaws.{after_first, after_second, after_done}
use Rattle.access_spec.specs.Journal.{journaled}
use Rattle.exec_stack.proofs.returns.cret_after.Goals as goal

pub returns-then-x-ge-EXCEPTION : goal.returns-then-x-ge-EXCEPTION
returns-then-x-ge-EXCEPTION c = after_first c.args.r.now c.args.q.now c.args.s c.args.w _ c.plus-i.ensures _ (journaled c.args.m.now c.args.journal.now) _ c.read_frame-x.ensures c.if-x-ge-EXCEPTION.true

pub returns-then-y-ge-EXCEPTION : goal.returns-then-y-ge-EXCEPTION
returns-then-y-ge-EXCEPTION c = after_second c.args.r.now c.args.q.now c.args.s c.args.w _ c.plus-i.ensures _ (journaled c.args.m.now c.args.journal.now) _ c.read_frame-x.ensures c.if-x-ge-EXCEPTION.false _ c.plus-j.ensures _ _ c.read_frame-y.ensures c.if-y-ge-EXCEPTION.true

pub returns : goal.returns
returns c = after_done c.args.r.now c.args.q.now c.args.s c.args.w _ c.plus-i.ensures _ (journaled c.args.m.now c.args.journal.now) _ c.read_frame-x.ensures c.if-x-ge-EXCEPTION.false _ c.plus-j.ensures _ _ c.read_frame-y.ensures c.if-y-ge-EXCEPTION.false _ _ c.low32-a.ensures c.low32-p.ensures _ c.cret_from.ensures
