use Rattle.step_pending.proofs.TracedLaws.{two_traced, one_traced, none_traced}
use Rattle.std.proofs.Common.{rules}
use Rattle.step_pending.proofs.tracing.traced.Goals as goal

pub returns-in-Two : goal.returns-in-Two
returns-in-Two c = search (rules, two_traced)

pub returns-in-One : goal.returns-in-One
returns-in-One c = search (rules, one_traced)

pub returns-in-Zero : goal.returns-in-Zero
returns-in-Zero c = search (rules, none_traced)
