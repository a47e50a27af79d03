use Rattle.access.proofs.EffectFreeLaws.{place_walked, place_physical}
use Rattle.std.proofs.Common.{rules}
use Rattle.access.proofs.effect_free.write_place.Goals as goal

pub returns-then-translated : goal.returns-then-translated
returns-then-translated c = search (rules, place_walked)

pub returns-else-translated : goal.returns-else-translated
returns-else-translated c = search (rules, place_physical)
