-- The loop that puts a journal's entries back.
-- Assumes nothing.
use Prim.Native.Nat.{ℕ, suc, ◌-◌, ◌<◌, ◌≤◌, min}
use mathlib.Core.Path.{◌≡◌, refl, ◌∙◌}
use native.Mathlib.Omega.{arith}
use native.Mathlib.Nat.{min-le_right}
use lib.ListN.{get_or, length}
use Rattle.memory.specs.Bytes.{Memory}
use Rattle.access_spec.specs.Journal.{Journal, count, room, restored, undone, undo}

-- where the loop stands: what is left to put back gives what the whole gives
pub record PuttingBack (j : Journal) (m₀ : Memory) (m : Memory) (i : ℕ) : Type 0 where
  pub most : i ≤ 200
  pub long : length m ≡ length m₀
  pub rest : undone i j m ≡ undo j m₀

module _ (j : Journal) (m₀ : Memory) where
  pub putting_begun : (i : ℕ) → i ≡ min (count j) room → PuttingBack j m₀ m₀ i
  unfolding undo
  putting_begun i e = record { most = rw e (min-le_right (count j) room); long = refl; rest = rw e refl }

  module _ (m : Memory) (i : ℕ) (g : PuttingBack j m₀ m i) where
    pub putting_more : 0 < i → (k : Memory) → k ≡ restored m (get_or j i 0) → length k ≡ length m → PuttingBack j m₀ k (i - 1)
    unfolding undone
    putting_more h k e l = record { most = omega (arith, g.most); long = l ∙ g.long; rest = once (i - 1) (omega arith) ∙ g.rest }
      where
        once : (n : ℕ) → i ≡ suc n → undone n j k ≡ undone i j m
        once n f = rw (e, f) refl

    pub putting_end : i ≤ 0 → m ≡ undo j m₀
    unfolding undone
    putting_end h = let k : i ≡ 0 = omega arith in rw k at g.rest
