use Rattle.mmu.specs.Walk.{route}
use Rattle.mmu.proofs.translation.route.Goals as goal

pub returns-then-translated : goal.returns-then-translated
unfolding route
returns-then-translated c = rw c.if-translated.true c.translate.ensures

pub returns-else-translated : goal.returns-else-translated
unfolding route
returns-else-translated c = rw c.if-translated.false
