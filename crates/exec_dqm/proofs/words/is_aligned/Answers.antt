use mathlib.Core.Bool.{true, false}
use Rattle.exec_dqm.proofs.ManyLaws.{aligned_by}
use Rattle.exec_dqm.proofs.words.is_aligned.Goals as goal

pub returns-then-double : goal.returns-then-double
returns-then-double c = aligned_by c.args.double true c.args.a c.if-double.true

pub returns-else-double : goal.returns-else-double
returns-else-double c = aligned_by c.args.double false c.args.a c.if-double.false
