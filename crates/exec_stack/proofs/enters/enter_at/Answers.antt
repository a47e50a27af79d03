use Rattle.exec_stack.proofs.EnterLaws.{at_offset, at_empty, at_uncached, at_plain}
use Rattle.access_spec.specs.Journal.{journaled}
use Rattle.exec_stack.proofs.enters.enter_at.Goals as goal

pub returns-then-is_stack : goal.returns-then-is_stack
returns-then-is_stack c = at_offset c.args.r.now c.args.q.now c.args.mode c.args.target (journaled c.args.m.now c.args.journal.now) _ _ c.sp_current.ensures c.if-sp_current.true _ c.cache_on.ensures c.if-cache_on.true _ c.is_stack.ensures c.if-is_stack.true c.enter_offset.ensures

pub returns-else-is_stack : goal.returns-else-is_stack
returns-else-is_stack c = at_empty c.args.r.now c.args.q.now c.args.mode c.args.target (journaled c.args.m.now c.args.journal.now) _ _ c.sp_current.ensures c.if-sp_current.true _ c.cache_on.ensures c.if-cache_on.true _ c.is_stack.ensures c.if-is_stack.false c.enter_empty.ensures

pub returns-else-cache_on : goal.returns-else-cache_on
returns-else-cache_on c = at_uncached c.args.r.now c.args.q.now c.args.mode c.args.target (journaled c.args.m.now c.args.journal.now) _ _ c.sp_current.ensures c.if-sp_current.true _ c.cache_on.ensures c.if-cache_on.false (c.enter_uncached.ensures _ _)

pub returns-else-sp_current : goal.returns-else-sp_current
returns-else-sp_current c = at_plain c.args.r.now c.args.q.now c.args.mode c.args.target (journaled c.args.m.now c.args.journal.now) _ _ c.sp_current.ensures c.if-sp_current.false (c.enter_plain.ensures _ _)
