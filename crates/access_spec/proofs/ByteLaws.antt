-- Memory of bytes: its numbers are bounded, and stores and recording leave memory of bytes.
-- Assumes nothing.
use Prim.Native.Nat.{ℕ, zero, suc, ◌+◌, ◌/◌, ◌%◌, ◌^◌, ◌<◌}
use mathlib.Core.Bool.{Bool, true, false, cond}
use mathlib.Core.List.{List, [], ◌∷◌}
use native.Mathlib.Nat.{mod-lt, pow-suc}
use native.Mathlib.Omega.{arith}
use lib.Dec.{lit<}
use lib.ListN.{get_or, set}
use Rattle.memory.specs.Bytes.{Memory, byte_at, number, stored}
use Rattle.mmu.specs.declared.AccessKind.{AccessKind}
use Rattle.mmu.specs.declared.AccessKind.TheVariants.{Fetch, Read, Write}
use Rattle.mmu.specs.Walk.{marked, fresh, recorded}
use Rattle.mmu.proofs.MarkLaws.{marked_byte}
use Rattle.access_spec.specs.Access.{Access, fetch, read, write, probe, noted}

abbrev pub Bytes : Memory → Type 0
Bytes m = (a : ℕ) → byte_at m a < 256

-- what holds of every element, and of what is set, holds of every element then
pub set_all : {A : Type 0} (P : A → Type 0) (l : List A) (k : ℕ) (a d : A) → ((j : ℕ) → P (get_or l j d)) → P a → (j : ℕ) → P (get_or (set l k a) j d)
set_all P [] k a d h g j = h j
set_all P (x ∷ l) zero a d h g zero = g
set_all P (x ∷ l) zero a d h g (suc j) = h (suc j)
set_all P (x ∷ l) (suc k) a d h g zero = h 0
set_all P (x ∷ l) (suc k) a d h g (suc j) = set_all P l k a d (λ i. h (suc i)) g j

set_byte : (m : Memory) (a v : ℕ) → v < 256 → Bytes m → Bytes (set m a v)
set_byte m a v h b = set_all (λ (x : ℕ). x < 256) m a v 0 b h

pub number_lt : (n : ℕ) (m : Memory) (a : ℕ) → Bytes m → number n m a < 256 ^ n
number_lt zero m a b = lit< tt
number_lt (suc n) m a b = rw (pow-suc 256 n) (omega (arith, number_lt n m a b, b (a + n)))

pub stored_bytes : (n : ℕ) (m : Memory) (a v : ℕ) → Bytes m → Bytes (stored n m a v)
stored_bytes zero m a v b = b
stored_bytes (suc n) m a v b = set_byte (stored n m a (v / 256)) (a + n) (v % 256) (mod-lt v (lit< tt)) (stored_bytes n m a (v / 256) b)

-- a page entry with its bits set
pub marked_bytes : (k : AccessKind) (p : ℕ) (m : Memory) → Bytes m → Bytes (set m (p + 3) (marked k (byte_at m (p + 3))))
marked_bytes k p m b = set_byte m (p + 3) (marked k (byte_at m (p + 3))) (marked_byte k (byte_at m (p + 3)) (b (p + 3))) b

recorded_bytes : (k : AccessKind) (p : ℕ) (m : Memory) → Bytes m → Bytes (recorded k p m)
unfolding recorded
recorded_bytes k p m b = go (fresh k p m)
  where
    go : (x : Bool) → Bytes (cond x (set m (p + 3) (marked k (byte_at m (p + 3)))) m)
    go true = marked_bytes k p m b
    go false = b

pub noted_bytes : (q : Access) (p : ℕ) (m : Memory) → Bytes m → Bytes (noted q p m)
noted_bytes (fetch r a) p m b = recorded_bytes Fetch p m b
noted_bytes (read r w a) p m b = recorded_bytes Read p m b
noted_bytes (write r w a v) p m b = recorded_bytes Write p m b
noted_bytes (probe r a) p m b = b
