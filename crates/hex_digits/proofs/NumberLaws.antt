-- Texts of digits: parts of them, their numbers, and that the digits of a number that was read are those that stand there.
-- Assumes nothing.
use mathlib.Core.Path.{◌≡◌, refl, sym, ap, ◌∙◌}
use mathlib.Core.Bool.{true}
use mathlib.Core.List.{List, [], ◌++◌, append-nil}
use Prim.Native.Nat.{ℕ, zero, suc, ◌+◌, ◌^◌, ◌≤◌, ◌<◌}
use native.Mathlib.Nat.{zero-add, mod-eq_of_lt}
use native.Mathlib.Omega.{arith}
use lib.ListN.{length, get_or, take, drop, length-drop, take-append-drop, get_or-append}
use lib.Seq.{length-take-le, get_or-append-add, get_or-take, get_or-drop, ext_get_or}
use lib.Dec.{leb}
use borrow.Author.Tests.{leb-true}
use Rattle.word.proofs.CaseLaws.{by_test, and_left, and_right}
use Rattle.hex_digits.specs.Digits.{is_decimal, is_letter, all_digits, digit_of, number_at, digits}
use Rattle.hex_digits.proofs.DigitLaws.{all_append, digit_at, length_digits, all_digits_law, number_digits, same_digits}

-- ---- parts of digits

module _ (n : ℕ) (s : List ℕ) (h : all_digits s ≡ true) where
  both_parts : all_digits (take n s ++ drop n s) ≡ true
  both_parts = ap all_digits (take-append-drop n s) ∙ h

  pub all_take : all_digits (take n s) ≡ true
  all_take = and_left (all_digits (take n s)) (all_digits (drop n s)) (sym (all_append (take n s) (drop n s)) ∙ both_parts)

  pub all_drop : all_digits (drop n s) ≡ true
  all_drop = and_right (all_digits (take n s)) (all_digits (drop n s)) (sym (all_append (take n s) (drop n s)) ∙ both_parts)

-- ---- numbers in parts

pub number_before : (n : ℕ) (a s : List ℕ) (i : ℕ) → i + n ≤ length a → number_at n (a ++ s) i ≡ number_at n a i
number_before zero a s i h = refl
number_before (suc n) a s i h = rw (number_before n a s i (omega arith), get_or-append a s 0 (i + n) (omega arith)) refl

pub number_after : (n : ℕ) (a s : List ℕ) (i : ℕ) → number_at n (a ++ s) (length a + i) ≡ number_at n s i
number_after zero a s i = refl
number_after (suc n) a s i =
    let e : length a + i + n ≡ length a + (i + n) = omega arith in
    rw (number_after n a s i, e, get_or-append-add a s (i + n) 0) refl

pub number_drop : (n k : ℕ) (s : List ℕ) (i : ℕ) → number_at n (drop k s) i ≡ number_at n s (k + i)
number_drop zero k s i = refl
number_drop (suc n) k s i =
    let e : k + i + n ≡ k + (i + n) = omega arith in
    rw (number_drop n k s i, e, get_or-drop k s (i + n) 0) refl

-- ---- a number of n digits

digit_small : (b : ℕ) → digit_of b < 16
unfolding digit_of
digit_small b =
    by_test (is_decimal b)
    (λ d. rw d (omega (arith, leb-true b 57 (and_right (leb 48 b) (leb b 57) d))))
    (λ d. by_test (is_letter b)
    (λ l. rw (d, l) (omega (arith, leb-true b 70 (and_right (leb 65 b) (leb b 70) l))))
    (λ l. rw (d, l) (omega arith)))

pub number_small : (n : ℕ) (s : List ℕ) (i : ℕ) → number_at n s i < 16 ^ n
number_small zero s i = omega arith
number_small (suc n) s i = omega (arith, number_small n s i, digit_small (get_or s (i + n) 0))

pub digits_number : (n : ℕ) (s : List ℕ) (i : ℕ) → all_digits s ≡ true → i + n ≤ length s
    → digits n (number_at n s i) ≡ take n (drop i s)
digits_number n s i h g =
    let x : ℕ = number_at n s i in
    let same : number_at n s i ≡ number_at n (digits n x) 0 =
    sym (mod-eq_of_lt (number_small n s i))
    ∙ sym (number_digits n x [] [])
    ∙ ap (λ (t : List ℕ). number_at n t 0) (append-nil (digits n x)) in
    let inside : n ≤ length (drop i s) = rw (length-drop i s) (omega arith) in
    ext_get_or 0 (digits n x) (take n (drop i s))
    (length_digits n x ∙ sym (length-take-le n (drop i s) inside))
    (λ k l. let m : k < n = omega (arith, length_digits n x) in
    sym (same_digits n s (digits n x) i 0 (λ j u. digit_at s (i + j) h (omega arith))
    (λ j u. digit_at (digits n x) (0 + j) (all_digits_law n x) (omega (arith, length_digits n x))) same k m
    ∙ ap (λ (y : ℕ). get_or (digits n x) y 0) (zero-add k))
    ∙ sym (get_or-take n (drop i s) k 0 m ∙ get_or-drop i s k 0))
