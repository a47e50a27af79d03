use Rattle.exec_stack.proofs.EnterLaws.{clipped_first, clipped_second, clipped_done}
use Rattle.access_spec.specs.Journal.{journaled}
use Rattle.exec_stack.proofs.enters.enter_clipped.Goals as goal

pub returns-then-x-ge-EXCEPTION : goal.returns-then-x-ge-EXCEPTION
returns-then-x-ge-EXCEPTION c = λ q j. clipped_first c.args.r.now q c.args.target c.args.old _ c.clipped-new.ensures _ _ (journaled c.args.m.now j) _ (c.check_target-x.ensures q j) c.if-x-ge-EXCEPTION.true

pub returns-then-y-ge-EXCEPTION : goal.returns-then-y-ge-EXCEPTION
returns-then-y-ge-EXCEPTION c = λ q j. clipped_second c.args.r.now q c.args.target c.args.old _ c.clipped-new.ensures _ _ (journaled c.args.m.now j) _ (c.check_target-x.ensures q j) c.if-x-ge-EXCEPTION.false _ _ c.is_user-user.ensures c.is_virtual-translated.ensures _ _ _ (c.check_msp-y.ensures q j) c.if-y-ge-EXCEPTION.true

pub returns : goal.returns
returns c = λ q j. clipped_done c.args.r.now q c.args.target c.args.old _ c.clipped-new.ensures _ _ (journaled c.args.m.now j) _ (c.check_target-x.ensures q j) c.if-x-ge-EXCEPTION.false _ _ c.is_user-user.ensures c.is_virtual-translated.ensures _ _ _ (c.check_msp-y.ensures q j) c.if-y-ge-EXCEPTION.false _ c.with_csp.ensures
