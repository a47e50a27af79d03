use Rattle.exec_stack.proofs.CatchLaws.{catch_stopped, catch_done}
use Rattle.access_spec.specs.Journal.{journaled}
use Rattle.exec_stack.proofs.catches.catch.Goals as goal

pub returns-then-x-ge-EXCEPTION : goal.returns-then-x-ge-EXCEPTION
returns-then-x-ge-EXCEPTION c = catch_stopped c.args.r.now c.args.q.now c.args.mode c.args.v (journaled c.args.m.now c.args.journal.now) c.args.n _ _ _ _ c.catch_held-x.ensures c.if-x-ge-EXCEPTION.true

pub returns : goal.returns
returns c = catch_done c.args.r.now c.args.q.now c.args.mode c.args.v (journaled c.args.m.now c.args.journal.now) c.args.n _ _ _ _ c.catch_held-x.ensures c.if-x-ge-EXCEPTION.false _ c.advance_pc.ensures
