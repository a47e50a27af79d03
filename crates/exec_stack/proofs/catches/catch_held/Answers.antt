use Rattle.exec_stack.proofs.CatchLaws.{held_current, held_nothing}
use Rattle.access_spec.specs.Journal.{journaled}
use Rattle.exec_stack.proofs.catches.catch_held.Goals as goal

pub returns-then-sp_current : goal.returns-then-sp_current
returns-then-sp_current c = held_current c.args.r.now c.args.q.now c.args.mode c.args.v (journaled c.args.m.now c.args.journal.now) _ c.sp_current.ensures c.if-sp_current.true _ c.catch_current.ensures

pub returns-else-sp_current : goal.returns-else-sp_current
returns-else-sp_current c = held_nothing c.args.r.now c.args.q.now c.args.mode c.args.v (journaled c.args.m.now c.args.journal.now) _ c.sp_current.ensures c.if-sp_current.false
