-- A bit set in a word leaves every other bit, and the word a word.
-- Assumes nothing.
use Prim.Native.Nat.{ℕ, ◌+◌, ◌-◌, ◌*◌, ◌/◌, ◌%◌, ◌^◌, ◌<◌}
use mathlib.Core.Path.{◌≡◌, refl, sym, ap, ◌∙◌}
use mathlib.Core.Bool.{Bool, true, false, not}
use native.Mathlib.Nat.{mod-lt, div-lt_iff_lt-mul}
use native.Mathlib.Omega.{arith}
use native.Mathlib.Decide.{dec_lt, ℕ_discrete}
use lib.Dec.{T, T_not, eqb}
use lib.Pow.{pow_pos, pow-add, high, low, field, mod-mod-pow, shr-shr, shr_lt}
use Rattle.word.specs.Fields.{bit_of}
use Rattle.exec_spec.specs.Alu.{bit_digit, with_bit_as, Flag, stays, gets, flagged}
use Rattle.invariants.proofs.RuleLaws.{Alike, is_flag}

digit_lt : (b : Bool) → bit_digit b < 2
digit_lt true = omega arith
digit_lt false = omega arith

module _ (n : ℕ) (b : Bool) (x : ℕ) where
  -- the parts above and below the bit
  rest : x % 2 ^ n < 2 ^ n
  rest = mod-lt x (pow_pos n)

  same_below : with_bit_as n b x % 2 ^ n ≡ x % 2 ^ n
  same_below = low (x / 2 ^ n / 2 * 2 + bit_digit b) n rest

  same_above : with_bit_as n b x / 2 ^ n / 2 ≡ x / 2 ^ n / 2
  same_above = ap (λ (y : ℕ). y / 2) (high (x / 2 ^ n / 2 * 2 + bit_digit b) n rest) ∙ omega (arith, digit_lt b)

  -- a lower bit, and a higher one
  lower : (y k j : ℕ) → n ≡ j + (1 + k) → y / 2 ^ k % 2 ≡ y % 2 ^ n % 2 ^ (1 + k) / 2 ^ k
  lower y k j e =
      sym (field y 1 k)
      ∙ ap (λ (z : ℕ). z / 2 ^ k) (sym (mod-mod-pow y j (1 + k)))
      ∙ ap (λ (z : ℕ). y % 2 ^ z % 2 ^ (1 + k) / 2 ^ k) (sym e)

  upper : (y k j : ℕ) → k ≡ n + 1 + j → y / 2 ^ k ≡ y / 2 ^ n / 2 / 2 ^ j
  upper y k j e =
      ap (λ (z : ℕ). y / 2 ^ z) e ∙ sym (shr-shr y (n + 1) j) ∙ ap (λ (z : ℕ). z / 2 ^ j) (sym (shr-shr y n 1))

  pub bit_other : (k : ℕ) → (k ≡ n → ⊥) → bit_of (with_bit_as n b x) k ≡ bit_of x k
  bit_other k d = ap (λ (y : ℕ). eqb y 1) (go (dec_lt k n))
    where
      go : Dec (k < n) → with_bit_as n b x / 2 ^ k % 2 ≡ x / 2 ^ k % 2
      go (yes l) =
          lower (with_bit_as n b x) k (n - (1 + k)) (omega arith)
          ∙ ap (λ (y : ℕ). y % 2 ^ (1 + k) / 2 ^ k) same_below
          ∙ sym (lower x k (n - (1 + k)) (omega arith))
      go (no l) =
          ap (λ (y : ℕ). y % 2)
          (upper (with_bit_as n b x) k (k - (n + 1)) (above (ℕ_discrete k n))
          ∙ ap (λ (y : ℕ). y / 2 ^ (k - (n + 1))) same_above
          ∙ sym (upper x k (k - (n + 1)) (above (ℕ_discrete k n))))
        where
          above : Dec (k ≡ n) → k ≡ n + 1 + (k - (n + 1))
          above (yes e) = absurd (d e)
          above (no e) = omega (arith, e)

  -- a word stays one
  pub bit_word : (j : ℕ) → n < j → x < 2 ^ j → with_bit_as n b x < 2 ^ j
  bit_word j l h =
      let s : j - (n + 1) + (n + 1) ≡ j = omega arith in
      let small : x / 2 ^ (n + 1) < 2 ^ (j - (n + 1)) = shr_lt (j - (n + 1)) (n + 1) (rw s h) in
      let same : with_bit_as n b x / 2 ^ (n + 1) ≡ x / 2 ^ (n + 1) = sym (shr-shr _ n 1) ∙ same_above ∙ shr-shr x n 1 in
      let full : 2 ^ j ≡ 2 ^ (j - (n + 1)) * 2 ^ (n + 1) = ap (λ (z : ℕ). 2 ^ z) (sym s) ∙ pow-add 2 (j - (n + 1)) (n + 1) in
      rw full ((div-lt_iff_lt-mul (pow_pos (n + 1))).0 (rw same small))

-- the flags

pub alike_same : (x : ℕ) → Alike x x
alike_same x = record { bits = λ n f. refl; word = λ h. h }

pub alike_bit : (n : ℕ) (b : Bool) (x y : ℕ) → T (is_flag n) → n < 32 → Alike x y → Alike x (with_bit_as n b y)
alike_bit n b x y f l a =
    record { bits = λ k g. bit_other n b y k (λ e. apart k g e) ∙ a.bits k g; word = λ h. bit_word n b y 32 l (a.word h) }
  where
    apart : (k : ℕ) → T (not (is_flag k)) → k ≡ n → ⊥
    apart k g e = T_not (is_flag k) g (rw e f)

pub alike_flag : (n : ℕ) (g : Flag) (x y : ℕ) → T (is_flag n) → n < 32 → Alike x y → Alike x (flagged n g y)
alike_flag n stays x y f l a = a
alike_flag n (gets b) x y f l a = alike_bit n b x y f l a
