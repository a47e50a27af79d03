use Rattle.exec_stack.proofs.TargetLaws.{check_faulted, checked}
use Rattle.access.specs.Followed.{regime_for}
use Rattle.exec_stack.proofs.targets.check.Goals as goal

pub returns-then-x-ge-EXCEPTION : goal.returns-then-x-ge-EXCEPTION
returns-then-x-ge-EXCEPTION c = λ q j. check_faulted c.args.r.now q (regime_for c.args.stb c.args.user c.args.translated) c.args.a _ c.args.m.now j c.probe-x.ensures _ c.if-x-ge-EXCEPTION.true c.set_fault.ensures

pub returns : goal.returns
returns c = λ q j. checked c.args.r.now q (regime_for c.args.stb c.args.user c.args.translated) c.args.a _ c.args.m.now j c.probe-x.ensures c.if-x-ge-EXCEPTION.false
