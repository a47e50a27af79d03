-- Carry and overflow of wrapped sums: by a comparison, and by signs.
-- Assumes nothing.
use Rattle.std.proofs.Common.{◌≡◌, ℕ, ◌+◌, ◌-◌, ◌^◌, ◌<◌, ◌≤◌, Bool, true, false, not, ◌&&◌, ltb, leb, sym, refl, ◌∙◌, arith, ltb-false, ltb-true, le-ltb, lt-ltb, leb-false, leb-true}
use mathlib.Core.Bool.{beq}
use Rattle.word.specs.Signed.{biased, outside, differ_of}
use Rattle.word.specs.Sums.{plus_of, minus_of}
use Rattle.word.proofs.CaseLaws.{by_test}

-- a sum has wrapped if it is below an operand
pub wrapped_below : (b a : ℕ) → b < 2 ^ 32 → a < 2 ^ 32 → ltb (plus_of b a) b ≡ ltb 0xFFFF_FFFF (b + a)
wrapped_below b a h g =
    by_test (ltb 0xFFFF_FFFF (b + a))
    (λ e. lt-ltb (plus_of b a) b (omega (arith, ltb-true 0xFFFF_FFFF (b + a) e)) ∙ sym e)
    (λ e. le-ltb (plus_of b a) b (omega (arith, ltb-false 0xFFFF_FFFF (b + a) e)) ∙ sym e)

-- a number given plus 2 ^ 32: below, among and above the signed words
under : (n : ℕ) → n < 2 ^ 31 → true ≡ outside n
under n h = simp (lt-ltb n (2 ^ 31) h)

among : (n : ℕ) → 2 ^ 31 ≤ n → n < 2 ^ 32 + 2 ^ 31 → false ≡ outside n
among n h g = simp (le-ltb n (2 ^ 31) h, le-ltb (2 ^ 32 + 2 ^ 31 - 1) n (omega arith))

over : (n : ℕ) → 2 ^ 32 + 2 ^ 31 ≤ n → true ≡ outside n
over n h = simp (le-ltb n (2 ^ 31) (omega arith), lt-ltb (2 ^ 32 + 2 ^ 31 - 1) n (omega arith))

-- no sign differs from both signs
one_of : (s : Bool) → (not (beq true s) && not (beq false s)) ≡ false
one_of true = refl
one_of false = refl

other_of : (s : Bool) → (not (beq false s) && not (beq true s)) ≡ false
other_of true = refl
other_of false = refl

-- what the signs of the operands (e, f) and of the result (i) say of the signed result
module _ (b a : ℕ) (h : b < 2 ^ 32) (g : a < 2 ^ 32) where
  -- a sum has overflowed if its sign is neither operand's
  pub sum_overflow : (differ_of b (plus_of b a) && differ_of a (plus_of b a)) ≡ outside (biased b + biased a)
  sum_overflow =
      let v : ℕ = plus_of b a in
      let n : ℕ = biased b + biased a in
      by_test (leb (2 ^ 31) b)
      (λ e. by_test (leb (2 ^ 31) a)
      (λ f. by_test (leb (2 ^ 31) v)
      (λ i. simp (e, f, i) (among n (omega (arith, leb-true, leb-false)) (omega (arith, leb-true, leb-false))))
      (λ i. simp (e, f, i) (under n (omega (arith, leb-true, leb-false)))))
      (λ f. simp (e, f, one_of (leb (2 ^ 31) v)) (among n (omega (arith, leb-true, leb-false)) (omega (arith, leb-true, leb-false)))))
      (λ e. by_test (leb (2 ^ 31) a)
      (λ f. simp (e, f, other_of (leb (2 ^ 31) v)) (among n (omega (arith, leb-true, leb-false)) (omega (arith, leb-true, leb-false))))
      (λ f. by_test (leb (2 ^ 31) v)
      (λ i. simp (e, f, i) (over n (omega (arith, leb-true, leb-false))))
      (λ i. simp (e, f, i) (among n (omega (arith, leb-true, leb-false)) (omega (arith, leb-true, leb-false))))))

  -- a difference has overflowed if the operands' signs differ and its sign is not the first one's
  pub difference_overflow : (differ_of b a && differ_of b (minus_of b a)) ≡ outside (biased b + 2 ^ 32 - biased a)
  difference_overflow =
      let v : ℕ = minus_of b a in
      let n : ℕ = biased b + 2 ^ 32 - biased a in
      by_test (leb (2 ^ 31) b)
      (λ e. by_test (leb (2 ^ 31) a)
      (λ f. simp (e, f) (among n (omega (arith, leb-true, leb-false)) (omega (arith, leb-true, leb-false))))
      (λ f. by_test (leb (2 ^ 31) v)
      (λ i. simp (e, f, i) (among n (omega (arith, leb-true, leb-false)) (omega (arith, leb-true, leb-false))))
      (λ i. simp (e, f, i) (under n (omega (arith, leb-true, leb-false))))))
      (λ e. by_test (leb (2 ^ 31) a)
      (λ f. by_test (leb (2 ^ 31) v)
      (λ i. simp (e, f, i) (over n (omega (arith, leb-true, leb-false))))
      (λ i. simp (e, f, i) (among n (omega (arith, leb-true, leb-false)) (omega (arith, leb-true, leb-false)))))
      (λ f. simp (e, f) (among n (omega (arith, leb-true, leb-false)) (omega (arith, leb-true, leb-false)))))
