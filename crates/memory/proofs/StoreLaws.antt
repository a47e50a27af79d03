-- A law for each way out of a function.
-- Assumes nothing.
use mathlib.Core.Path.{◌≡◌, refl, sym, ◌∙◌}
use Prim.Native.Nat.{ℕ, ◌+◌, ◌*◌, ◌/◌, ◌%◌, ◌≤◌, ◌<◌}
use native.Mathlib.Nat.{add-zero}
use native.Mathlib.Omega.{arith}
use lib.ListN.{length, set}
use borrow.Author.Tests.{le-leb, lt-leb}
use Rattle.memory.specs.Exceptions.{bus_fault}
use Rattle.memory.specs.Answers.{Answer, good, raised}
use Rattle.memory.specs.Bytes.{Memory, byte_at, number, stored, load, store_answer, store_memory, store_of, effect}

-- the numbers of one, two and four bytes
number_1 : (m : Memory) (a : ℕ) → number 1 m a ≡ byte_at m a
number_1 m a = rw add-zero (omega arith)

number_2 : (m : Memory) (a : ℕ) → number 2 m a ≡ byte_at m a * 256 + byte_at m (a + 1)
number_2 m a = rw (number_1 m a) refl

number_4 : (m : Memory) (a : ℕ) → number 4 m a ≡ ((byte_at m a * 256 + byte_at m (a + 1)) * 256 + byte_at m (a + 2)) * 256 + byte_at m (a + 3)
number_4 m a = rw (number_2 m a) refl

module _ (m : Memory) (a : ℕ) (x : Answer) where
  load_in : (n v : ℕ) → a + n ≤ length m → x ≡ good v → v ≡ number n m a → x ≡ load n m a
  unfolding load
  load_in n v h e f = simp (le-leb _ _ h, e, f)

  pub load_past : (n : ℕ) → length m < a + n → x ≡ raised bus_fault → x ≡ load n m a
  unfolding load
  load_past n h e = simp (lt-leb _ _ h, e)

  pub load_1 : (v : ℕ) → a + 1 ≤ length m → x ≡ good v → v ≡ byte_at m a → x ≡ load 1 m a
  load_1 v h e f = load_in 1 v h e (f ∙ sym (number_1 m a))

  pub load_2 : (v : ℕ) → a + 2 ≤ length m → x ≡ good v → v ≡ byte_at m a * 256 + byte_at m (a + 1) → x ≡ load 2 m a
  load_2 v h e f = load_in 2 v h e (f ∙ sym (number_2 m a))

  pub load_4 : (v : ℕ) → a + 4 ≤ length m → x ≡ good v
      → v ≡ ((byte_at m a * 256 + byte_at m (a + 1)) * 256 + byte_at m (a + 2)) * 256 + byte_at m (a + 3)
      → x ≡ load 4 m a
  load_4 v h e f = load_in 4 v h e (f ∙ sym (number_4 m a))

  module _ (v : ℕ) where
    store_in : (n : ℕ) (s : Memory) → a + n ≤ length m → x ≡ good 0 → s ≡ stored n m a v → effect x s ≡ store_of n m a v
    unfolding store_of store_answer store_memory
    store_in n s h e f = simp (le-leb _ _ h, e, f)

    pub store_past : (n : ℕ) → length m < a + n → x ≡ raised bus_fault → effect x m ≡ store_of n m a v
    unfolding store_of store_answer store_memory
    store_past n h e = simp (lt-leb _ _ h, e)

    pub store_1 : a + 1 ≤ length m → x ≡ good 0 → effect x (set m a (v % 256)) ≡ store_of 1 m a v
    store_1 h e = store_in 1 (set m a (v % 256)) h e (rw add-zero)

    pub store_2 : a + 2 ≤ length m → x ≡ good 0 → effect x (set (set m a (v / 256 % 256)) (a + 1) (v % 256)) ≡ store_of 2 m a v
    store_2 h e = store_in 2 _ h e (rw add-zero)

    pub store_4 : a + 4 ≤ length m → x ≡ good 0
        → effect x
        (set (set (set (set m a (v / 256 / 256 / 256 % 256)) (a + 1) (v / 256 / 256 % 256)) (a + 2) (v / 256 % 256)) (a + 3) (v % 256))
        ≡ store_of 4 m a v
    store_4 h e = store_in 4 _ h e (rw add-zero)
