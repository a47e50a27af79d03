use Rattle.exec_stack.proofs.TargetLaws.{target_checked}
use Rattle.access_spec.specs.Journal.{journaled}
use Rattle.exec_stack.proofs.targets.check_target.Goals as goal

pub returns : goal.returns
returns c = λ q j. target_checked c.args.r.now q c.args.a _ _ (journaled c.args.m.now j) _ _ _ c.is_user-user.ensures c.is_virtual-translated.ensures (c.check.ensures q j)
