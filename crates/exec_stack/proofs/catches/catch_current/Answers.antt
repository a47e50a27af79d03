use Rattle.exec_stack.proofs.CatchLaws.{target_stopped, current_caught, current_left}
use Rattle.access_spec.specs.Journal.{journaled}
use Rattle.exec_stack.proofs.catches.catch_current.Goals as goal

pub returns-then-x-ge-EXCEPTION : goal.returns-then-x-ge-EXCEPTION
returns-then-x-ge-EXCEPTION c = target_stopped c.args.r.now c.args.q.now c.args.mode c.args.v _ _ (journaled c.args.m.now c.args.journal.now) _ c.stack_target-x.ensures c.if-x-ge-EXCEPTION.true

pub returns-then-cache_on : goal.returns-then-cache_on
returns-then-cache_on c = current_caught c.args.r.now c.args.q.now c.args.mode c.args.v _ _ (journaled c.args.m.now c.args.journal.now) _ c.stack_target-x.ensures c.if-x-ge-EXCEPTION.false _ c.cache_on.ensures c.if-cache_on.true _ _ c.is_user-user.ensures c.is_virtual-translated.ensures _ c.low32-a.ensures _ c.catch_to.ensures

pub returns-else-cache_on : goal.returns-else-cache_on
returns-else-cache_on c = current_left c.args.r.now c.args.q.now c.args.mode c.args.v _ _ (journaled c.args.m.now c.args.journal.now) _ c.stack_target-x.ensures c.if-x-ge-EXCEPTION.false _ c.cache_on.ensures c.if-cache_on.false
