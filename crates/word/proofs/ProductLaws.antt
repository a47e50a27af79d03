-- What V of MUL and of DIV means: without it the result is the signed product or quotient.
-- Assumes nothing.
use Rattle.std.proofs.Common.{◌≡◌, ℕ, ◌+◌, ◌-◌, ◌*◌, ◌/◌, ◌%◌, ◌^◌, ◌<◌, ◌≤◌, Bool, true, false, eqb, ltb, leb, sym, ap, ◌∙◌, le_trans, mul_comm, add-mul, div-le_self, arith, ltb-false, le-ltb, eqb-true, leb-false, leb-true}
use native.Mathlib.Nat.{div-le_of_le-mul}
use borrow.Author.Tests.{eqb-false}
use Rattle.word.specs.Signed.{magnitude_of, with_sign, differ_of, limit_of}
use Rattle.word.specs.Products.{mul_of, udiv_of, div_of}
use Rattle.word.proofs.CaseLaws.{by_test}

-- a word b and m = 2 ^ 32 - b are opposite modulo 2 ^ 32, and so are their products with a
opposite : (b m a : ℕ) → b + m ≡ 2 ^ 32 → b * a + m * a ≡ 2 ^ 32 * a
opposite b m a e = sym (add-mul b m a) ∙ ap (λ (n : ℕ). n * a) e

one_negative : (b m a : ℕ) → b + m ≡ 2 ^ 32 → m * a ≤ 2 ^ 31 → b * a % 2 ^ 32 ≡ (2 ^ 32 - m * a) % 2 ^ 32
one_negative b m a e l = omega (arith, opposite b m a e)

other_negative : (b a n : ℕ) → a + n ≡ 2 ^ 32 → b * n ≤ 2 ^ 31 → b * a % 2 ^ 32 ≡ (2 ^ 32 - b * n) % 2 ^ 32
other_negative b a n e l = omega (arith, opposite a n b e, mul_comm a b, mul_comm n b)

both_negative : (b m a n : ℕ) → b + m ≡ 2 ^ 32 → a + n ≡ 2 ^ 32 → m * n ≤ 2 ^ 31 - 1 → b * a % 2 ^ 32 ≡ m * n
both_negative b m a n e f l =
    omega (arith, opposite b m a e, mul_comm a m, mul_comm n m, opposite a n m f)

-- MUL with V clear: the word of the product's sign and magnitude
pub mul_signed : (b a : ℕ) → b < 2 ^ 32 → a < 2 ^ 32 → (mul_of b a).overflow ≡ false
    → (mul_of b a).value ≡ with_sign (differ_of b a) (magnitude_of b * magnitude_of a)
unfolding mul_of
mul_signed b a h g o =
    let l : magnitude_of b * magnitude_of a ≤ limit_of (differ_of b a) = ltb-false (limit_of (differ_of b a)) (magnitude_of b * magnitude_of a) o in
    by_test (leb (2 ^ 31) b)
    (λ e. by_test (leb (2 ^ 31) a)
    (λ f. simp (e, f) (both_negative b (2 ^ 32 - b) a (2 ^ 32 - a) (omega arith) (omega arith) (simp (e, f) at l)))
    (λ f. simp (e, f) (one_negative b (2 ^ 32 - b) a (omega arith) (simp (e, f) at l))))
    (λ e. by_test (leb (2 ^ 31) a)
    (λ f. simp (e, f) (other_negative b a (2 ^ 32 - a) (omega arith) (simp (e, f) at l)))
    (λ f. simp (e, f) (omega (arith, simp (e, f) at l))))

-- every sign allows magnitudes to 2 ^ 31 - 1, and no word's magnitude exceeds 2 ^ 31
limit_least : (s : Bool) → 2 ^ 31 - 1 ≤ limit_of s
limit_least true = omega arith
limit_least false = omega arith

magnitude_small : (b : ℕ) → (b ≡ 0x8000_0000 → ⊥) → magnitude_of b ≤ 2 ^ 31 - 1
magnitude_small b d =
    by_test (leb (2 ^ 31) b)
    (λ e. simp e (omega (arith, leb-true (2 ^ 31) b e, d)))
    (λ e. simp e (omega (arith, leb-false (2 ^ 31) b e)))

-- -2 ^ 31 by anything but -1
least_by : (a : ℕ) → a < 2 ^ 32 → (a ≡ 0xFFFF_FFFF → ⊥) → false ≡ ltb (limit_of (differ_of 0x8000_0000 a)) (0x8000_0000 / magnitude_of a)
least_by a g d =
    by_test (leb (2 ^ 31) a)
    (λ e. simp e
    (sym (le-ltb (2 ^ 31 - 1) (0x8000_0000 / (2 ^ 32 - a))
    (le_trans (div-le_of_le-mul (2 ^ 32 - a) {m = 0x8000_0000} {n = 2 ^ 30} (omega (arith, leb-true (2 ^ 31) a e, d))) (omega arith)))))
    (λ e. simp e (sym (le-ltb (2 ^ 31) (0x8000_0000 / a) (div-le_self 0x8000_0000 a))))

-- 1.8.2: "Signed overflow does arise in DIV in precisely the case of 0x80000000 divided by -1"
pub div_overflow : (b a : ℕ) → b < 2 ^ 32 → a < 2 ^ 32
    → (div_of b a).overflow ≡ ltb (limit_of (differ_of b a)) (udiv_of (magnitude_of b) (magnitude_of a))
unfolding div_of
div_overflow b a h g =
    by_test (eqb b 0x8000_0000)
    (λ e. by_test (eqb a 0xFFFF_FFFF)
    (λ f. rw (eqb-true b 0x8000_0000 e, eqb-true a 0xFFFF_FFFF f))
    (λ f. rw (eqb-true b 0x8000_0000 e) (simp f (least_by a g (eqb-false a 0xFFFF_FFFF f)))))
    (λ e. simp e
    (sym (le-ltb (limit_of (differ_of b a)) (magnitude_of b / magnitude_of a)
    (le_trans (div-le_self (magnitude_of b) (magnitude_of a))
    (le_trans (magnitude_small b (eqb-false b 0x8000_0000 e)) (limit_least (differ_of b a)))))))
