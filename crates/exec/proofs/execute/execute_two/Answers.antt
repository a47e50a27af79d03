use Rattle.exec.proofs.ExecuteLaws.{two_stopped, two_done}
use Rattle.access_spec.specs.Journal.{journaled}
use Rattle.exec.proofs.execute.execute_two.Goals as goal

pub returns-then-x-ge-EXCEPTION : goal.returns-then-x-ge-EXCEPTION
returns-then-x-ge-EXCEPTION c = two_stopped c.args.r.now c.args.q.now c.args.n c.args.wide c.args.task c.args.s c.args.d _ _ _ (journaled c.args.m.now c.args.journal.now) _ c.execute_dyadic-x.ensures c.if-x-ge-EXCEPTION.true

pub returns : goal.returns
returns c = two_done c.args.r.now c.args.q.now c.args.n c.args.wide c.args.task c.args.s c.args.d _ _ _ (journaled c.args.m.now c.args.journal.now) _ c.execute_dyadic-x.ensures c.if-x-ge-EXCEPTION.false _ c.advance_pc.ensures
