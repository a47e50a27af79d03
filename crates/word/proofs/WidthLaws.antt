-- Laws of truncation and extension, each once over the number of bits k.
-- Assumes nothing.
use Rattle.std.proofs.Common.{◌≡◌, ℕ, suc, ◌+◌, ◌-◌, ◌*◌, ◌/◌, ◌%◌, ◌^◌, ◌<◌, ◌≤◌, leb, ◌⊎◌, sym, ap, ◌∙◌, ⊎_elim, add-zero, mul-le-mul_right, mod-eq_of_lt, mul-lt-mul_of_pos_right, arith, pow_pos, pow_mono, pow-add, le-leb, leb-false, leb-true}
use native.Mathlib.Nat.{mod-mod, mul-mod_left, add-mul-mod_self_right, two-pow-succ}
use lib.Pow.{mod-pow-add, shl-shr, ones_split, ones_lt, high, high_ones}
use borrow.Author.Tests.{lt-leb}
use Rattle.word.specs.declared.Width.{Width}
use Rattle.word.specs.declared.Width.TheVariants.{Byte, Half, Word}
use Rattle.word.specs.Shifts.{shl_of, shr_of}
use Rattle.word.specs.Widths.{bits_of, truncate_of, sign_extend_of}
use Rattle.word.proofs.CaseLaws.{by_test}
use Rattle.word.proofs.WordLaws.{low_lt}

-- every width has at most 32 bits, so that each law below holds of it
pub bits_le : (w : Width) → bits_of w ≤ 32
bits_le Byte = omega arith
bits_le Half = omega arith
bits_le Word = omega arith

-- truncation: below 2 ^ k, and nothing is lost of what fits
pub truncate_lt : (k x : ℕ) → truncate_of k x < 2 ^ k
truncate_lt k x = low_lt k x

pub truncate_fits : (k x : ℕ) → x < 2 ^ k → truncate_of k x ≡ x
truncate_fits k x h = mod-eq_of_lt h

pub truncate_truncate : (k x : ℕ) → truncate_of k (truncate_of k x) ≡ truncate_of k x
truncate_truncate k x = mod-mod x (2 ^ k)

-- a number of k bits is a word
pub low_word : (k x : ℕ) → k ≤ 32 → truncate_of k x < 2 ^ 32
low_word k x l = let p : 2 ^ k ≤ 2 ^ 32 = pow_mono l in omega (arith, truncate_lt k x)

-- sign extension: below 2 ^ 32, the low k bits kept, and only they count
pub sign_extend_lt : (k x : ℕ) → k ≤ 32 → sign_extend_of k x < 2 ^ 32
sign_extend_lt k x l =
    let p : 2 ^ k ≤ 2 ^ 32 = pow_mono l in
    let t : truncate_of k x < 2 ^ k = truncate_lt k x in
    by_test (leb (2 ^ (k - 1)) (truncate_of k x)) (λ e. simp e (omega arith)) (λ e. simp e (omega arith))

pub truncate_sign_extend : (k x : ℕ) → k ≤ 32 → truncate_of k (sign_extend_of k x) ≡ truncate_of k x
truncate_sign_extend k x l =
    let s : 32 - k + k ≡ 32 = omega arith in
    let ones : 2 ^ 32 - 2 ^ k ≡ (2 ^ (32 - k) - 1) * 2 ^ k = ap (λ (n : ℕ). 2 ^ n - 2 ^ k) (sym s) ∙ high_ones (32 - k) k in
    by_test (leb (2 ^ (k - 1)) (truncate_of k x))
    (λ e. simp (e, ones) (add-mul-mod_self_right (truncate_of k x) (2 ^ (32 - k) - 1) (2 ^ k) ∙ mod-mod x (2 ^ k)))
    (λ e. simp (e, add-zero) (mod-mod x (2 ^ k)))

pub sign_extend_truncate : (k x : ℕ) → sign_extend_of k (truncate_of k x) ≡ sign_extend_of k x
sign_extend_truncate k x = simp (truncate_truncate k x)

-- a signed number of k bits, at 32 bits, is its own extension: from 0 to 2 ^ (k - 1) - 1, and from -2 ^ (k - 1) to -1
half : (k : ℕ) → 0 < k → 2 ^ k ≡ 2 ^ (k - 1) + 2 ^ (k - 1)
half k p = let e : k ≡ suc (k - 1) = omega arith in ap (λ (n : ℕ). 2 ^ n) e ∙ two-pow-succ (k - 1)

pub sign_extend_positive : (k x : ℕ) → 0 < k → x < 2 ^ (k - 1) → sign_extend_of k x ≡ x
sign_extend_positive k x p h =
    let t : truncate_of k x ≡ x = mod-eq_of_lt {n = x} {m = 2 ^ k} (omega (arith, half k p)) in
    simp (t, lt-leb (2 ^ (k - 1)) x h) (add-zero x)

pub sign_extend_negative : (k x : ℕ) → 0 < k → k ≤ 32 → 2 ^ 32 - 2 ^ (k - 1) ≤ x → x < 2 ^ 32 → sign_extend_of k x ≡ x
sign_extend_negative k x p l h g =
    let m : 2 ^ k ≤ 2 ^ 32 = pow_mono l in
    let d : 2 ^ k ≡ 2 ^ (k - 1) + 2 ^ (k - 1) = half k p in
    let y : ℕ = x - (2 ^ 32 - 2 ^ k) in
    let e : x ≡ y + (2 ^ 32 - 2 ^ k) = omega arith in
    let s : 32 - k + k ≡ 32 = omega arith in
    let ones : 2 ^ 32 - 2 ^ k ≡ (2 ^ (32 - k) - 1) * 2 ^ k = ap (λ (n : ℕ). 2 ^ n - 2 ^ k) (sym s) ∙ high_ones (32 - k) k in
    let t : truncate_of k x ≡ y =
    ap (λ (n : ℕ). n % 2 ^ k) (e ∙ ap (λ (n : ℕ). y + n) ones)
    ∙ add-mul-mod_self_right y (2 ^ (32 - k) - 1) (2 ^ k)
    ∙ mod-eq_of_lt {n = y} {m = 2 ^ k} (omega arith)
    in
    simp (t, le-leb (2 ^ (k - 1)) y (omega arith)) (sym e)

-- extending what was truncated gives back what fits: a signed number of k bits
pub sign_extend_fits : (k x : ℕ) → 0 < k → k ≤ 32 → x < 2 ^ 32 → (x < 2 ^ (k - 1)) ⊎ (2 ^ 32 - 2 ^ (k - 1) ≤ x)
    → sign_extend_of k (truncate_of k x) ≡ x
sign_extend_fits k x p l g =
    ⊎_elim
    (λ h. sign_extend_truncate k x ∙ sign_extend_positive k x p h)
    (λ h. sign_extend_truncate k x ∙ sign_extend_negative k x p l h g)

-- shifted to the top of a word and back, the low k bits are sign-extended
scaled : (a b c : ℕ) → 0 < c → leb (a * c) (b * c) ≡ leb a b
scaled a b c p =
    by_test (leb a b)
    (λ e. le-leb (a * c) (b * c) (mul-le-mul_right c (leb-true a b e)) ∙ sym e)
    (λ e. lt-leb (a * c) (b * c) (mul-lt-mul_of_pos_right (leb-false a b e) p) ∙ sym e)

module _ (k x : ℕ) (p : 0 < k) (l : k ≤ 32) where
  count : (32 - k) % 32 ≡ 32 - k
  count = mod-eq_of_lt {n = 32 - k} {m = 32} (omega arith)

  total : k + (32 - k) ≡ 32
  total = omega arith

  to_top : shl_of x (32 - k) ≡ truncate_of k x * 2 ^ (32 - k)
  to_top =
      ap (λ (n : ℕ). x * 2 ^ n % 2 ^ 32) count
      ∙ ap (λ (n : ℕ). x * 2 ^ (32 - k) % 2 ^ n) (sym total)
      ∙ mod-pow-add (x * 2 ^ (32 - k)) k (32 - k)
      ∙ simp (shl-shr, mul-mod_left) (add-zero (truncate_of k x * 2 ^ (32 - k)))

  sign_at_top : leb (2 ^ 31) (truncate_of k x * 2 ^ (32 - k)) ≡ leb (2 ^ (k - 1)) (truncate_of k x)
  sign_at_top =
      let s : 31 ≡ k - 1 + (32 - k) = omega arith in
      ap (λ (n : ℕ). leb n (truncate_of k x * 2 ^ (32 - k))) (ap (λ (n : ℕ). 2 ^ n) s ∙ pow-add 2 (k - 1) (32 - k))
      ∙ scaled (2 ^ (k - 1)) (truncate_of k x) (2 ^ (32 - k)) (pow_pos (32 - k))

  ones_back : 0xFFFF_FFFF / 2 ^ (32 - k) ≡ 2 ^ k - 1
  ones_back =
      ap (λ (n : ℕ). (2 ^ n - 1) / 2 ^ (32 - k)) (sym total)
      ∙ ap (λ (n : ℕ). n / 2 ^ (32 - k)) (ones_split k (32 - k))
      ∙ high (2 ^ k - 1) (32 - k) (ones_lt (32 - k))

  pub sign_extend_by_shifts : shr_of (shl_of x (32 - k)) (32 - k) ≡ sign_extend_of k x
  sign_extend_by_shifts =
      let ones : 0xFFFF_FFFF - (2 ^ k - 1) ≡ 2 ^ 32 - 2 ^ k = omega (arith, pow_pos k) in
      ap (λ (n : ℕ). shr_of n (32 - k)) to_top ∙ simp (count, shl-shr, sign_at_top, ones_back, ones)
