-- The bank after a word is set: the word, the others, the length and the shape.
-- Places are compared by a test, so that at two numerals `refl` shows that they differ.
-- Assumes nothing.
use mathlib.Core.Path.{◌≡◌, refl, ◌∙◌}
use mathlib.Core.Bool.{true, false}
use Prim.Native.Nat.{ℕ, ◌≤◌, ◌<◌}
use native.Mathlib.Decide.{ℕ_discrete, dec_lt}
use native.Mathlib.Omega.{arith}
use lib.ListN.{length, set, length-set}
use lib.Seq.{get_or-set_same, get_or-set_other, set_out}
use lib.Dec.{eqb}
use borrow.Author.Tests.{eqb-false}
use Rattle.machine.specs.Registers.{Bank, word, start_bank, good_bank}
use Rattle.machine.specs.Cache.{Cache}
use Rattle.machine.specs.Status.{Cpu, cpu}
use Rattle.machine.specs.Shapes.{BankShape}

-- a bank made of another, whatever the cache
abbrev pub Made : Bank → Bank → (Cpu → Cpu) → Type 0
Made b d f = (q : Cache) → cpu d q ≡ f (cpu b q)

pub word_set : (b : Bank) (k v : ℕ) → length b ≡ 17 → k < 17 → word (set b k v) k ≡ v
word_set b k v e h = get_or-set_same b k v 0 (omega arith)

pub word_set_other : (b : Bank) (k v j : ℕ) → eqb j k ≡ false → word (set b k v) j ≡ word b j
word_set_other b k v j e = get_or-set_other b k j v 0 (eqb-false j k e)

pub length_17 : (b : Bank) (k v : ℕ) → length b ≡ 17 → length (set b k v) ≡ 17
length_17 b k v e = length-set b k v ∙ e

-- a word of what is due set to 1 or 0, or any register
shape_after : (b : Bank) (k v : ℕ) → BankShape b → (13 ≤ k → k < 17 → v ≤ 1) → BankShape (set b k v)
shape_after b k v s h = record { long = length_17 b k v s.long; due = λ j g. go j g (ℕ_discrete j k) }
  where
    at : 13 ≤ k → Dec (k < 17) → word (set b k v) k ≤ 1
    at g (yes l) = rw (word_set b k v s.long l) (h g l)
    at g (no n) = rw (set_out b k v (omega (arith, s.long))) (s.due k g)

    go : (j : ℕ) → 13 ≤ j → Dec (j ≡ k) → word (set b k v) j ≤ 1
    go j g (no d) = rw (get_or-set_other b k j v 0 d) (s.due j g)
    go j g (yes p) = rw p (at (omega arith) (dec_lt k 17))

pub shape_register : (b : Bank) (k v : ℕ) → BankShape b → k < 13 → BankShape (set b k v)
shape_register b k v s h = shape_after b k v s (λ g l. absurd (omega arith))

pub shape_due : (b : Bank) (k v : ℕ) → BankShape b → v ≤ 1 → BankShape (set b k v)
shape_due b k v s h = shape_after b k v s (λ g l. h)

-- the bank at the start
pub good_start : good_bank start_bank ≡ true
unfolding good_bank
good_start = refl
