use Rattle.exec_stack.proofs.EnterLaws.{empty_stopped, empty_done}
use Rattle.access_spec.specs.Journal.{journaled}
use Rattle.exec_stack.proofs.enters.enter_empty.Goals as goal

pub returns-then-x-ge-EXCEPTION : goal.returns-then-x-ge-EXCEPTION
returns-then-x-ge-EXCEPTION c = empty_stopped c.args.r.now c.args.q.now c.args.target _ _ (journaled c.args.m.now c.args.journal.now) _ c.flush-x.ensures c.if-x-ge-EXCEPTION.true

pub returns : goal.returns
returns c = empty_done c.args.r.now c.args.q.now c.args.target _ _ (journaled c.args.m.now c.args.journal.now) _ c.flush-x.ensures c.if-x-ge-EXCEPTION.false _ (c.enter_uncached.ensures _ _)
