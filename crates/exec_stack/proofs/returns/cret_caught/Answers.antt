use Rattle.exec_stack.proofs.ReturnLaws.{caught_stopped, caught_done}
use Rattle.access_spec.specs.Journal.{journaled}
use Rattle.exec_stack.proofs.returns.cret_caught.Goals as goal

pub returns-then-x-ge-EXCEPTION : goal.returns-then-x-ge-EXCEPTION
returns-then-x-ge-EXCEPTION c = caught_stopped c.args.r.now c.args.q.now c.args.t c.args.p _ _ c.is_user-user.ensures c.bit-translated.ensures _ _ _ (journaled c.args.m.now c.args.journal.now) _ c.catch_to-x.ensures c.if-x-ge-EXCEPTION.true

pub returns : goal.returns
returns c = caught_done c.args.r.now c.args.q.now c.args.t c.args.p _ _ c.is_user-user.ensures c.bit-translated.ensures _ _ _ (journaled c.args.m.now c.args.journal.now) _ c.catch_to-x.ensures c.if-x-ge-EXCEPTION.false
