use Rattle.exec_stack.proofs.ReturnLaws.{from_stopped, from_done}
use Rattle.access_spec.specs.Journal.{journaled}
use Rattle.exec_stack.proofs.returns.cret_from.Goals as goal

pub returns-then-x-ge-EXCEPTION : goal.returns-then-x-ge-EXCEPTION
returns-then-x-ge-EXCEPTION c = from_stopped c.args.r.now c.args.q.now c.args.s c.args.w c.args.a c.args.p _ c.unreserved-k.ensures _ _ _ (journaled c.args.m.now c.args.journal.now) _ c.cret_fill-x.ensures c.if-x-ge-EXCEPTION.true

pub returns : goal.returns
returns c = from_done c.args.r.now c.args.q.now c.args.s c.args.w c.args.a c.args.p _ c.unreserved-k.ensures _ _ _ (journaled c.args.m.now c.args.journal.now) _ c.cret_fill-x.ensures c.if-x-ge-EXCEPTION.false _ c.returned.ensures
