-- An access whose walk neither faults nor sets a bit, and where it goes.
-- Assumes nothing.
use Rattle.std.specs.Prelude.{◌≡◌, false, cond, ℕ, ◌^◌}
use Rattle.memory.specs.Bytes.{Memory}
use Rattle.mmu.specs.declared.AccessKind.{AccessKind}
use Rattle.mmu.specs.declared.Regime.{Regime}
use Rattle.mmu.specs.declared.Walk.{Walk}
use Rattle.mmu.specs.declared.Walk.TheVariants.{Fault, Direct, Paged}
use Rattle.mmu.specs.Walk.{fresh, route}

-- the answer where there is no such place: no address has this number
abbrev pub nowhere : ℕ
nowhere = 2 ^ 32

-- where the walk of an access of kind k ends, if it neither faults nor sets a bit
abbrev pub settled_of : AccessKind → Memory → Walk → ℕ
settled_of k m (Fault c) = nowhere
settled_of k m (Direct pa) = pa
settled_of k m (Paged p pa) = cond (fresh k p m) nowhere pa

-- where an access of kind k at a goes
unfoldable pub effect_free_place : Regime → AccessKind → ℕ → Memory → ℕ
effect_free_place g k a m = settled_of k m (route g k a m)

-- an access of kind k at a goes to pa: what callers know of a place (`effect_free_place_law`)
pub data EffectFree (g : Regime) (k : AccessKind) (a : ℕ) (m : Memory) (pa : ℕ) : Type 0 where
  direct : route g k a m ≡ Direct pa → EffectFree g k a m pa
  paged : (p : ℕ) → route g k a m ≡ Paged p pa → fresh k p m ≡ false → EffectFree g k a m pa
