-- What recording may change: in one byte of memory, the bits Referenced and Modified alone.
-- Assumes nothing.
use mathlib.Core.Path.{◌≡◌, refl, ◌∙◌}
use mathlib.Core.Bool.{Bool, true, false, cond}
use Prim.Native.Nat.{ℕ, ◌+◌, ◌*◌, ◌/◌, ◌%◌, ◌<◌}
use native.Mathlib.Decide.{dec_lt}
use native.Mathlib.Omega.{arith}
use lib.ListN.{length, set, length-set}
use lib.Seq.{get_or-set_same, get_or-set_other, set_out}
use Rattle.word.proofs.CaseLaws.{either}
use Rattle.word.specs.Fields.{set_of}
use Rattle.memory.specs.Bytes.{Memory, byte_at, number}
use Rattle.memory.proofs.ByteLaws.{number_same}
use Rattle.mmu.specs.declared.AccessKind.{AccessKind}
use Rattle.mmu.specs.Walk.{is_write, marked, fresh, recorded}

-- all bits but 3 and 4: those that decide validity, permission and address
pub record Alike (x y : ℕ) : Type 0 where
  pub low : x % 8 ≡ y % 8
  pub high : x / 32 ≡ y / 32

with_8 : (b : ℕ) → Alike (set_of b 3) b
with_8 b = record { low = omega arith; high = omega arith }

with_16 : (b : ℕ) → Alike (set_of b 4) b
with_16 b = record { low = omega arith; high = omega arith }

pub marked_alike : (k : AccessKind) (b : ℕ) → Alike (marked k b) b
unfolding marked
marked_alike k b = go (is_write k)
  where
    both : Alike (set_of (set_of b 3) 4) b
    both = record { low = (with_16 (set_of b 3)).low ∙ (with_8 b).low; high = (with_16 (set_of b 3)).high ∙ (with_8 b).high }

    go : (w : Bool) → Alike (cond w (set_of (set_of b 3) 4) (set_of b 3)) b
    go true = both
    go false = with_8 b

-- a byte stays a byte
pub marked_byte : (k : AccessKind) (b : ℕ) → b < 256 → marked k b < 256
marked_byte k b h = let a = marked_alike k b in omega arith

-- under the same upper bytes
above_alike : (h x y : ℕ) → Alike x y → Alike (h * 256 + x) (h * 256 + y)
above_alike h x y a = record { low = low_alike a.low; high = high_alike a.high }
  where
    low_alike : x % 8 ≡ y % 8 → (h * 256 + x) % 8 ≡ (h * 256 + y) % 8
    low_alike e = omega arith

    high_alike : x / 32 ≡ y / 32 → (h * 256 + x) / 32 ≡ (h * 256 + y) / 32
    high_alike e = omega arith

module _ (k : AccessKind) (p : ℕ) (m : Memory) where
  pub length_recorded : length (recorded k p m) ≡ length m
  unfolding recorded
  length_recorded = either (λ l. length l ≡ length m) (fresh k p m) _ m (length-set m (p + 3) (marked k (byte_at m (p + 3)))) refl

  -- every byte but the entry's last is as it was
  pub byte_recorded : (x : ℕ) → (x ≡ p + 3 → ⊥) → byte_at (recorded k p m) x ≡ byte_at m x
  unfolding recorded
  byte_recorded x d = either (λ l. byte_at l x ≡ byte_at m x) (fresh k p m) _ m (get_or-set_other m (p + 3) x (marked k (byte_at m (p + 3))) 0 d) refl

  -- and that one has the same bits but for the two
  last_alike : Alike (byte_at (recorded k p m) (p + 3)) (byte_at m (p + 3))
  unfolding recorded
  last_alike = either (λ l. Alike (byte_at l (p + 3)) (byte_at m (p + 3))) (fresh k p m) _ m (at (dec_lt (p + 3) (length m))) same
    where
      same : Alike (byte_at m (p + 3)) (byte_at m (p + 3))
      same = record { low = refl; high = refl }

      at : Dec (p + 3 < length m) → Alike (byte_at (set m (p + 3) (marked k (byte_at m (p + 3)))) (p + 3)) (byte_at m (p + 3))
      at (yes h) = rw (get_or-set_same m (p + 3) (marked k (byte_at m (p + 3))) 0 h) (marked_alike k (byte_at m (p + 3)))
      at (no h) = rw (set_out m (p + 3) (marked k (byte_at m (p + 3))) (omega arith)) same

  -- so the entry is the same word but for the two bits
  pub entry_alike : Alike (number 4 (recorded k p m) p) (number 4 m p)
  entry_alike =
      let n = number_same 3 (recorded k p m) m p (λ i g h. byte_recorded i (λ e. omega arith)) in
      rw n (above_alike (number 3 m p) (byte_at (recorded k p m) (p + 3)) (byte_at m (p + 3)) last_alike)
