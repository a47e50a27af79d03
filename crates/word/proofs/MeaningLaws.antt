-- What the definitions of specs/ mean for signed numbers, so that a reader need not take them on trust.
-- Assumes nothing.
use Rattle.std.proofs.Common.{◌≡◌, ℕ, ◌+◌, ◌-◌, ◌*◌, ◌^◌, ◌<◌, ◌≤◌, true, false, cond, ltb, leb, true≢false, mod-lt, div-add-mod', arith, ltb-false, leb-false, leb-true}
use native.Mathlib.Nat.{mod-add-mod}
use Rattle.word.specs.Signed.{biased, outside, negative_of, magnitude_of, with_sign}
use Rattle.word.specs.Sums.{add_of, sub_of}
use Rattle.word.specs.Products.{udiv_of, urem_of}
use Rattle.word.proofs.CaseLaws.{by_test}

-- the two ways to give a signed number agree: n + 2 ^ 31 is 2 ^ 31 less or more the magnitude, by the sign
pub biased_magnitude : (x : ℕ) → x < 2 ^ 32 → biased x ≡ cond (negative_of x) (2 ^ 31 - magnitude_of x) (2 ^ 31 + magnitude_of x)
biased_magnitude x h =
    by_test (leb (2 ^ 31) x) (λ e. simp e (omega (arith, leb-true (2 ^ 31) x e))) (λ e. simp e (omega (arith, leb-false (2 ^ 31) x e)))

-- sign and magnitude of a word give the word
pub sign_magnitude : (x : ℕ) → x < 2 ^ 32 → with_sign (negative_of x) (magnitude_of x) ≡ x
sign_magnitude x h = by_test (leb (2 ^ 31) x) (λ e. simp e (omega (arith, leb-true (2 ^ 31) x e))) (λ e. simp e)

-- a number that is not outside lies from -2 ^ 31 to 2 ^ 31 - 1, both given plus 2 ^ 32
pub inside : (n : ℕ) → outside n ≡ false → (2 ^ 32 - 2 ^ 31 ≤ n) × (n ≤ 2 ^ 32 + 2 ^ 31 - 1)
inside n o =
    by_test (ltb n (2 ^ 32 - 2 ^ 31))
    (λ e. let f : true ≡ false = (simp e at o) in absurd (true≢false f))
    (λ e. (ltb-false n (2 ^ 32 - 2 ^ 31) e, ltb-false (2 ^ 32 + 2 ^ 31 - 1) n (simp e at o)))

-- C clear: the result is the unsigned sum or difference
pub add_unsigned : (b a : ℕ) → (add_of b a).carry ≡ false → (add_of b a).value ≡ b + a
unfolding add_of
add_unsigned b a c = omega (arith, ltb-false 0xFFFF_FFFF (b + a) c)

pub sub_unsigned : (b a : ℕ) → b < 2 ^ 32 → (sub_of b a).carry ≡ false → (sub_of b a).value ≡ b - a
unfolding sub_of
sub_unsigned b a h c = omega (arith, ltb-false b a c)

-- V clear: the result's signed number is the signed sum or difference
pub add_signed : (b a : ℕ) → b < 2 ^ 32 → a < 2 ^ 32 → (add_of b a).overflow ≡ false → biased (add_of b a).value + 2 ^ 31 ≡ biased b + biased a
unfolding add_of
add_signed b a h g o = rw mod-add-mod (omega (arith, inside (biased b + biased a) o))

pub sub_signed : (b a : ℕ) → b < 2 ^ 32 → a < 2 ^ 32 → (sub_of b a).overflow ≡ false → biased (sub_of b a).value + biased a ≡ biased b + 2 ^ 31
unfolding sub_of
sub_signed b a h g o = rw mod-add-mod (omega (arith, inside (biased b + 2 ^ 32 - biased a) o))

-- 1.8.3: b = (UD * a) + UR, where 0 <= UR < a
pub udiv_urem : (b a : ℕ) → udiv_of b a * a + urem_of b a ≡ b
udiv_urem b a = div-add-mod' b a

pub urem_below : (b a : ℕ) → 0 < a → urem_of b a < a
urem_below b a p = mod-lt b p
