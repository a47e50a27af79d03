use Rattle.exec_stack.proofs.TargetLaws.{msp_unchecked, msp_checked}
use Rattle.access.specs.Followed.{regime_for}
use Rattle.access_spec.specs.Journal.{journaled}
use Rattle.exec_stack.proofs.targets.check_msp.Goals as goal

pub returns-then-new-old : goal.returns-then-new-old
returns-then-new-old c = λ q j. msp_unchecked c.args.r.now q (regime_for c.args.stb c.args.user c.args.translated) c.args.old c.args.new _ (journaled c.args.m.now j) c.if-new-old.true c.good.ensures

pub returns-else-new-old : goal.returns-else-new-old
returns-else-new-old c = λ q j. msp_checked c.args.r.now q c.args.new _ _ (journaled c.args.m.now j) _ (regime_for c.args.stb c.args.user c.args.translated) c.args.old c.if-new-old.false (c.check.ensures q j)
