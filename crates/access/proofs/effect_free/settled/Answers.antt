use Rattle.access.proofs.EffectFreeLaws.{settled_fresh, settled_old}
use Rattle.std.proofs.Common.{rules}
use Rattle.access.proofs.effect_free.settled.Goals as goal

pub returns-then-is_fresh : goal.returns-then-is_fresh
returns-then-is_fresh c = search (rules, settled_fresh)

pub returns-else-is_fresh : goal.returns-else-is_fresh
returns-else-is_fresh c = search (rules, settled_old)
