use Rattle.exec_stack.proofs.EnterLaws.{enter_first, enter_second, enter_done}
use Rattle.access_spec.specs.Journal.{journaled}
use Rattle.exec_stack.proofs.enters.enter.Goals as goal

pub returns-then-x-ge-EXCEPTION : goal.returns-then-x-ge-EXCEPTION
returns-then-x-ge-EXCEPTION c = enter_first c.args.r.now c.args.q.now c.args.mode c.args.v c.args.n _ _ (journaled c.args.m.now c.args.journal.now) _ c.stack_target-x.ensures c.if-x-ge-EXCEPTION.true

pub returns-then-y-ge-EXCEPTION : goal.returns-then-y-ge-EXCEPTION
returns-then-y-ge-EXCEPTION c = enter_second c.args.r.now c.args.q.now c.args.mode c.args.v c.args.n _ _ (journaled c.args.m.now c.args.journal.now) _ c.stack_target-x.ensures c.if-x-ge-EXCEPTION.false _ c.low32.ensures _ c.clear_low-target.ensures _ _ _ c.enter_at-y.ensures c.if-y-ge-EXCEPTION.true

pub returns : goal.returns
returns c = enter_done c.args.r.now c.args.q.now c.args.mode c.args.v c.args.n _ _ (journaled c.args.m.now c.args.journal.now) _ c.stack_target-x.ensures c.if-x-ge-EXCEPTION.false _ c.low32.ensures _ c.clear_low-target.ensures _ _ _ c.enter_at-y.ensures c.if-y-ge-EXCEPTION.false _ c.with_guard.ensures _ c.advance_pc.ensures
