-- Digits: the number of one, numbers of two and eight, and the test of a whole line.
-- Assumes nothing.
use Rattle.std.specs.Prelude.{◌↔◌, IsTrue, EachIndex, slice_index}
use Rattle.std.proofs.Common.{◌≡◌, ℕ, suc, ◌+◌, ◌-◌, ◌*◌, ◌/◌, ◌%◌, ◌<◌, ◌≤◌, Bool, true, false, ◌&&◌, ◌||◌, leb, List, [], ◌∷◌, ◌++◌, length, get_or, take, drop, sym, refl, ap, ◌∙◌, true≢false, add-zero, arith, length-drop, take-append-drop, get_or-drop, take_all, drop-cons, take-suc, drop-drop, take-add, leb-true}
use mathlib.Core.Bool.{and-true, and-false}
use Rattle.word.proofs.CaseLaws.{by_test, and_left, and_right}
use Rattle.hex_digits.specs.Digits.{is_decimal, is_letter, is_digit, all_digits, digit_of, number_at}
use Rattle.hex_digits.proofs.DigitLaws.{all_append, digit_at}

-- ---- a digit's number

module _ (a z b : ℕ) where
  upper : (leb a b && leb b z) ≡ true → b ≤ z
  upper e = leb-true b z (and_right (leb a b) (leb b z) e)

  lower : (leb a b && leb b z) ≡ true → a ≤ b
  lower e = leb-true a b (and_left (leb a b) (leb b z) e)

or_right : (a b : Bool) → a ≡ false → (a || b) ≡ true → b ≡ true
or_right true b e g = absurd (true≢false e)
or_right false b e g = g

module _ (b : ℕ) where
  pub digit_number : is_digit b ≡ true → (b % 16 + b / 64 * 9 ≡ digit_of b) × (b % 16 + b / 64 * 9 < 16)
  unfolding digit_of
  digit_number h =
      by_test (is_decimal b)
      (λ d. let l = lower 48 57 b d in let u = upper 48 57 b d in rw d (omega (arith, l, u), omega (arith, l, u)))
      (λ d. let e = or_right (is_decimal b) (is_letter b) d h in
      let l = lower 65 70 b e in
      let u = upper 65 70 b e in
      rw (d, e) (omega (arith, l, u), omega (arith, l, u)))

  -- of any other byte, as the code answers
  pub no_digit : (t : Bool) → t ≡ is_digit b → t ≡ false → (0 ≡ digit_of b) × (0 < 16)
  unfolding digit_of
  no_digit t e h =
      by_test (is_decimal b)
      (λ d. let f : true ≡ is_digit b = rw d refl in absurd (true≢false (f ∙ sym e ∙ h)))
      (λ d. by_test (is_letter b)
      (λ l. let f : true ≡ is_digit b = rw (d, l) refl in absurd (true≢false (f ∙ sym e ∙ h)))
      (λ l. (rw (d, l) refl, omega arith)))

-- ---- numbers, two digits at a time

pub number_2 : (s : List ℕ) (i : ℕ) → number_at 2 s i ≡ digit_of (get_or s i 0) * 16 + digit_of (get_or s (i + 1) 0)
number_2 s i = rw add-zero (omega arith)

-- ---- a line of which each byte is tried

all_of_each : (s : List ℕ) → ((k : ℕ) → k < length s → is_digit (get_or s k 0) ≡ true) → all_digits s ≡ true
all_of_each [] f = refl
all_of_each (b ∷ s) f = rw (f 0 (omega arith)) (all_of_each s (λ k h. f (suc k) (omega arith)))

pub each_digit : (s : List ℕ) (r : Bool) → (IsTrue r ↔ EachIndex s (λ k. is_digit (slice_index s k) ≡ true)) → r ≡ all_digits s
each_digit s true f = sym (all_of_each s (f.0 refl))
each_digit s false f =
    by_test (all_digits s)
    (λ e. absurd (true≢false (sym (f.1 (λ k h. digit_at s k e h)))))
    (λ e. sym e)

-- ---- a line read up to its byte i

-- one byte after another
module _ (s : List ℕ) (i : ℕ) where
  pub one_digit : (d : Bool) → i < length s → d ≡ is_digit (get_or s i 0) → d ≡ all_digits (take 1 (drop i s))
  one_digit d h e = e ∙ rw (drop-cons s i 0 h) (sym (and-true (is_digit (get_or s i 0))))

  pub next_digit : (k : ℕ) (x d : Bool) → i + k < length s → x ≡ all_digits (take k (drop i s)) → d ≡ is_digit (get_or s (i + k) 0)
      → (x && d) ≡ all_digits (take (suc k) (drop i s))
  next_digit k x d h e g =
      let inside : k < length (drop i s) = rw (length-drop i s) (omega arith) in
      let last : is_digit (get_or s (i + k) 0) ≡ all_digits (get_or (drop i s) k 0 ∷ []) =
      ap is_digit (sym (get_or-drop i s k 0)) ∙ sym (and-true (is_digit (get_or (drop i s) k 0))) in
      (λ j. e j && (g ∙ last) j)
      ∙ sym (all_append (take k (drop i s)) (get_or (drop i s) k 0 ∷ []))
      ∙ sym (ap all_digits (take-suc (drop i s) k 0 inside))

  pub next_eight : (x y : Bool) → x ≡ all_digits (take 8 (drop i s)) → y ≡ all_digits (take 8 (drop (i + 8) s))
      → (x && y) ≡ all_digits (take 16 (drop i s))
  next_eight x y e g =
      (λ j. e j && (g ∙ sym (ap (λ (l : List ℕ). all_digits (take 8 l)) (drop-drop 8 i s))) j)
      ∙ sym (all_append (take 8 (drop i s)) (take 8 (drop 8 (drop i s))))
      ∙ sym (ap all_digits (take-add 8 8 (drop i s)))

pub record Read (s : List ℕ) (i : ℕ) : Type 0 where
  pub upto : i ≤ length s
  pub good : all_digits (take i s) ≡ true

module _ (s : List ℕ) where
  pub read_none : Read s 0
  read_none = record { upto = omega arith; good = refl }

  -- some more of it
  module _ (k i : ℕ) (x : Bool) (e : x ≡ all_digits (take k (drop i s))) where
    pub read_more : Read s i → i + k ≤ length s → x ≡ true → Read s (i + k)
    read_more r h f =
        record {
          upto = h;
          good =
              ap all_digits (take-add i k s)
              ∙ all_append (take i s) (take k (drop i s))
              ∙ (λ j. r.good j && (sym e ∙ f) j);
        }

    pub read_bad : x ≡ false → false ≡ all_digits s
    read_bad f =
        sym (
        ap all_digits (sym (take-append-drop i s) ∙ ap (λ (l : List ℕ). take i s ++ l) (sym (take-append-drop k (drop i s))))
        ∙ all_append (take i s) (take k (drop i s) ++ drop k (drop i s))
        ∙ ap (λ (b : Bool). all_digits (take i s) && b)
        (all_append (take k (drop i s)) (drop k (drop i s)) ∙ ap (λ (b : Bool). b && all_digits (drop k (drop i s))) (sym e ∙ f))
        ∙ and-false (all_digits (take i s))
        )

  -- what was read covers all but the last k
  pub read_all : (k i : ℕ) (x : Bool) → Read s i → k ≤ length s → length s ≤ i + k
      → x ≡ all_digits (take k (drop (length s - k) s)) → x ≡ all_digits s
  read_all k i x r h g e =
      let n : ℕ = length s - k in
      let short : n ≤ i = omega arith in
      let last : length (drop n s) ≤ k = rw (length-drop n s) (omega arith) in
      let through : n + (i - n) ≡ i = omega arith in
      let front : all_digits (take n s) ≡ true =
      and_left (all_digits (take n s)) (all_digits (take (i - n) (drop n s)))
      (sym (all_append (take n s) (take (i - n) (drop n s)))
      ∙ ap all_digits (sym (take-add n (i - n) s))
      ∙ ap (λ (j : ℕ). all_digits (take j s)) through
      ∙ r.good) in
      e
      ∙ ap all_digits (take_all k (drop n s) last)
      ∙ sym (ap (λ (b : Bool). b && all_digits (drop n s)) front)
      ∙ sym (all_append (take n s) (drop n s))
      ∙ ap all_digits (take-append-drop n s)

  -- from both ends
  pub both_ends : (x y : Bool) → 8 ≤ length s → length s < 16 → x ≡ all_digits (take 8 (drop 0 s))
      → y ≡ all_digits (take 8 (drop (length s - 8) s)) → (x && y) ≡ all_digits s
  both_ends x y h g e f =
      by_test x
      (λ b. rw b (read_all 8 8 y (read_more 8 0 x e read_none h b) h (omega arith) f))
      (λ b. rw b (read_bad 8 0 x e b))
