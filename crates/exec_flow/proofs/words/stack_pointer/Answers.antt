use Rattle.exec_flow.proofs.WordLaws.{pointer_sp, pointer_isp}
use Rattle.exec_flow.proofs.words.stack_pointer.Goals as goal

pub returns-then-sp_current : goal.returns-then-sp_current
returns-then-sp_current c = pointer_sp c.args.r.now _ c.sp_current.ensures c.if-sp_current.true

pub returns-else-sp_current : goal.returns-else-sp_current
returns-else-sp_current c = pointer_isp c.args.r.now _ c.sp_current.ensures c.if-sp_current.false
