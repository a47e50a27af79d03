use Rattle.exec.proofs.NiladicLaws.{user_stopped, kernel_gone}
use Rattle.access_spec.specs.Journal.{journaled}
use Rattle.exec.proofs.niladics.cret_privileged.Goals as goal

pub returns-then-is_user : goal.returns-then-is_user
returns-then-is_user c = user_stopped c.args.r.now c.args.q.now _ (journaled c.args.m.now c.args.journal.now) _ c.is_user.ensures c.if-is_user.true _ c.raised.ensures

pub returns-else-is_user : goal.returns-else-is_user
returns-else-is_user c = kernel_gone c.args.r.now c.args.q.now _ (journaled c.args.m.now c.args.journal.now) _ c.is_user.ensures c.if-is_user.false _ c.cret.ensures
