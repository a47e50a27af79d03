use Rattle.exec_stack.proofs.ReturnLaws.{cret_first, cret_second, cret_done}
use Rattle.access_spec.specs.Journal.{journaled}
use Rattle.exec_stack.proofs.returns.cret.Goals as goal

pub returns-then-x-ge-EXCEPTION : goal.returns-then-x-ge-EXCEPTION
returns-then-x-ge-EXCEPTION c = cret_first c.args.r.now c.args.q.now _ (journaled c.args.m.now c.args.journal.now) _ c.read_frame-x.ensures c.if-x-ge-EXCEPTION.true

pub returns-then-y-ge-EXCEPTION : goal.returns-then-y-ge-EXCEPTION
returns-then-y-ge-EXCEPTION c = cret_second c.args.r.now c.args.q.now _ (journaled c.args.m.now c.args.journal.now) _ c.read_frame-x.ensures c.if-x-ge-EXCEPTION.false _ c.plus-j.ensures _ _ c.read_frame-y.ensures c.if-y-ge-EXCEPTION.true

pub returns : goal.returns
returns c = cret_done c.args.r.now c.args.q.now _ (journaled c.args.m.now c.args.journal.now) _ c.read_frame-x.ensures c.if-x-ge-EXCEPTION.false _ c.plus-j.ensures _ _ c.read_frame-y.ensures c.if-y-ge-EXCEPTION.false _ _ c.low32-s.ensures c.low32-w.ensures _ c.cret_after.ensures
