use mathlib.Core.Path.{sym, ◌∙◌}
use native.Mathlib.Omega.{arith}
use Rattle.fast_dyadic.proofs.cache_words.cached_address.Goals as goal

pub returns-then-a-eq0 : goal.returns-then-a-eq0
returns-then-a-eq0 c = λ h. (c.stack_address-a.ensures, sym c.cached.ensures ∙ c.if-cached.true, c.if-a-eq0.true)

pub returns-else-a-eq0 : goal.returns-else-a-eq0
returns-else-a-eq0 c = λ h. absurd (omega (arith, h))

pub returns-else-cached : goal.returns-else-cached
returns-else-cached c = λ h. absurd (omega (arith, h))
