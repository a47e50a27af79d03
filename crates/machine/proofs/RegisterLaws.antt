-- Laws of the registers: masks and reserved bits.
-- Assumes nothing.
use mathlib.Core.Path.{◌≡◌, refl, ap, ◌∙◌}
use mathlib.Core.Bool.{Bool, true, ◌&&◌}
use Prim.Native.Nat.{ℕ, ◌+◌, ◌≤◌, ◌<◌}
use native.Mathlib.Numerals.{add-one}
use native.Mathlib.Omega.{arith}
use lib.ListN.{get_or, get_or-eq_default}
use lib.Bits.{bit_and, and_high}
use Rattle.machine.specs.Registers.{Bank, word, low_bits, bit_counts, unreserved, clean, clean_below, stack_held, good_bank, sp, msp}
use Rattle.machine.specs.Masks.{mask_of}

-- past the registers there is no reserved bit
pub mask_rest : (k : ℕ) → 13 ≤ k → 0xFFFF_FFFF ≡ mask_of k
mask_rest k h = rw (get_or-eq_default bit_counts 32 {n = k} h, get_or-eq_default low_bits 0 {n = k} h) refl

pub kept_masked : (k v x : ℕ) → x ≡ mask_of k → bit_and v x ≡ unreserved k v
kept_masked k v x e = ap (bit_and v) e ∙ and_high v (get_or bit_counts k 32) (get_or low_bits k 0)

-- the first n registers looked at
pub record CleanSoFar (b : Bank) (n : ℕ) (ok : Bool) : Type 0 where
  pub upto : n ≤ 13
  pub found : ok ≡ clean_below n b

pub clean_none : (b : Bank) → CleanSoFar b 0 true
clean_none b = record { upto = omega arith; found = refl }

pub clean_more : (b : Bank) (n : ℕ) (x y : Bool) → CleanSoFar b n x → n < 13 → y ≡ clean n (word b n) → CleanSoFar b (n + 1) (x && y)
clean_more b n x y r h e = record { upto = omega arith; found = rw (add-one, r.found, e) refl }

pub clean_all : (b : Bank) (n : ℕ) (x : Bool) → CleanSoFar b n x → 13 ≤ n → x ≡ clean_below 13 b
clean_all b n x r h = let e : n ≡ 13 = omega (arith, r.upto) in r.found ∙ ap (λ (k : ℕ). clean_below k b) e

pub bank_good : (b : Bank) (x y : Bool) → x ≡ clean_below 13 b → y ≡ stack_held (word b sp) (word b msp) → (x && y) ≡ good_bank b
unfolding good_bank
bank_good b x y e g = rw (e, g) refl
