-- Digits printed and read: the digits of a number are digits and have its number, and digits with one number are the same bytes.
-- Assumes nothing.
use mathlib.Core.Path.{◌≡◌, refl, sym, ap, ◌∙◌}
use mathlib.Core.Bool.{Bool, true, not, and_assoc, ◌&&◌, ◌||◌}
use mathlib.Core.List.{List, [], ◌∷◌, ◌++◌}
use Prim.Native.Nat.{ℕ, zero, suc, zero-le, ◌+◌, ◌-◌, ◌*◌, ◌/◌, ◌%◌, ◌^◌, ◌≤◌, ◌<◌}
use native.Mathlib.Nat.{mod-lt, mod-one, div-one, div-div-eq-div-mul, pow-suc, mul_assoc, add-mul}
use native.Mathlib.Omega.{arith}
use lib.ListN.{length, get_or, set, take, drop, length-append, length-set}
use lib.Seq.{append_snoc, get_or-append_seam, split_at}
use lib.Dec.{eqb, leb, ltb}
use lib.Pow.{mod-pow-add}
use borrow.Author.Tests.{leb-true, ltb-true, ltb-false, eqb-true}
use Rattle.word.proofs.CaseLaws.{by_test, and_left, and_right}
use Rattle.word.proofs.FieldLaws.{digits_pow}
use Rattle.word.proofs.EveryLaws.{every, holds}
use Rattle.hex_digits.specs.Digits.{is_decimal, is_letter, is_digit, all_digits, digit_of, number_at, digit_byte, digits}
use Rattle.hex_digits.specs.Output.{written}
use Rattle.hex_digits.proofs.OutputLaws.{set_before}

-- ---- digits put into a buffer, the last one first

module _ (o : List ℕ) (p n v : ℕ) where
  -- of the n digits of v those from place i on are there, and w is what is left of v
  pub record DigitsFrom (i w : ℕ) (x : List ℕ) : Type 0 where
    pub upto : i ≤ n
    pub left : w ≡ v / 16 ^ (n - i)
    pub bytes : x ≡ written o (p + i) (digits (n - i) v)
    pub long : length x ≡ length o

  pub no_digits : DigitsFrom n v o
  no_digits = let e : n - n ≡ 0 = omega arith in record { upto = omega arith; left = rw e (sym (div-one v)); bytes = rw e refl; long = refl }

  pub another_digit : (i j w b : ℕ) (x : List ℕ) → DigitsFrom i w x → 0 < i → j ≡ i - 1 → b ≡ digit_byte (w % 16)
      → DigitsFrom j (w / 16) (set x (p + j) b)
  another_digit i j w b x d h f g =
      let k : ℕ = n - i in
      let e : n - j ≡ suc k = omega (arith, d.upto) in
      let q : p + i ≡ suc (p + j) = omega arith in
      record {
        upto = omega (arith, d.upto);
        left = rw e (ap (λ (y : ℕ). y / 16) d.left ∙ div-div-eq-div-mul v (16 ^ k) 16 ∙ ap (λ (y : ℕ). v / y) (sym (pow-suc 16 k)));
        bytes =
            rw e
            (ap (λ (y : List ℕ). set y (p + j) b) (d.bytes ∙ ap (λ (y : ℕ). written o y (digits k v)) q)
            ∙ set_before (digits k v) o (suc (p + j)) (p + j) b (omega arith)
            ∙ ap (λ (y : ℕ). written (set o (p + j) y) (suc (p + j)) (digits k v)) (g ∙ ap (λ (y : ℕ). digit_byte (y % 16)) d.left));
        long = length-set x (p + j) b ∙ d.long;
      }

  pub every_digit : (i w : ℕ) (x : List ℕ) → DigitsFrom i w x → i ≤ 0 → x ≡ written o p (digits n v)
  every_digit i w x d h =
      let e : i ≡ 0 = omega arith in
      let f : p + 0 ≡ p = omega arith in
      let g : n - 0 ≡ n = omega arith in
      d.bytes ∙ rw (e, f, g) refl

-- ---- a digit and its number, by computation

number_test : ℕ → Bool
number_test d = is_digit (digit_byte d) && eqb (digit_of (digit_byte d)) d

numbers_pass : every number_test 4 0 ≡ true
unfolding number_test digit_of digit_byte
numbers_pass = refl

byte_test : ℕ → Bool
byte_test b = not (is_digit b) || ltb (digit_of b) 16 && eqb (digit_byte (digit_of b)) b

bytes_pass : every byte_test 7 0 ≡ true
unfolding byte_test digit_of digit_byte
bytes_pass = refl

-- the table of the code
abbrev pub table : List ℕ
table = 48 ∷ 49 ∷ 50 ∷ 51 ∷ 52 ∷ 53 ∷ 54 ∷ 55 ∷ 56 ∷ 57 ∷ 65 ∷ 66 ∷ 67 ∷ 68 ∷ 69 ∷ 70 ∷ []

table_test : ℕ → Bool
table_test d = eqb (get_or table d 0) (digit_byte d)

table_passes : every table_test 4 0 ≡ true
unfolding table_test digit_byte
table_passes = refl

pub in_table : (x : ℕ) → get_or table (x % 16) 0 ≡ digit_byte (x % 16)
unfolding table_test
in_table x = eqb-true _ _ (holds table_test 4 0 (x % 16) zero-le (mod-lt x (omega arith)) table_passes)

module _ (d : ℕ) (h : d < 16) where
  number_passes : (is_digit (digit_byte d) && eqb (digit_of (digit_byte d)) d) ≡ true
  unfolding number_test
  number_passes = holds number_test 4 0 d zero-le h numbers_pass

  digit_is : is_digit (digit_byte d) ≡ true
  digit_is = and_left (is_digit (digit_byte d)) (eqb (digit_of (digit_byte d)) d) number_passes

  digit_back : digit_of (digit_byte d) ≡ d
  digit_back = eqb-true _ _ (and_right (is_digit (digit_byte d)) (eqb (digit_of (digit_byte d)) d) number_passes)

digit_below : (b : ℕ) → is_digit b ≡ true → b < 128
digit_below b h =
    by_test (is_decimal b)
    (λ e. omega (arith, leb-true b 57 (and_right (leb 48 b) (leb b 57) e)))
    (λ e. let l : is_letter b ≡ true = rw e at h in omega (arith, leb-true b 70 (and_right (leb 65 b) (leb b 70) l)))

module _ (b : ℕ) (h : is_digit b ≡ true) where
  byte_passes : (ltb (digit_of b) 16 && eqb (digit_byte (digit_of b)) b) ≡ true
  unfolding byte_test
  byte_passes = rw h at (holds byte_test 7 0 b zero-le (digit_below b h) bytes_pass)

  digit_value : digit_of b < 16
  digit_value = ltb-true _ _ (and_left (ltb (digit_of b) 16) (eqb (digit_byte (digit_of b)) b) byte_passes)

  byte_back : digit_byte (digit_of b) ≡ b
  byte_back = eqb-true _ _ (and_right (ltb (digit_of b) 16) (eqb (digit_byte (digit_of b)) b) byte_passes)

-- ---- texts of digits

pub all_append : (s t : List ℕ) → all_digits (s ++ t) ≡ (all_digits s && all_digits t)
all_append [] t = refl
all_append (b ∷ s) t = ap (λ (x : Bool). is_digit b && x) (all_append s t) ∙ sym (and_assoc (is_digit b) (all_digits s) (all_digits t))

pub digit_at : (s : List ℕ) (i : ℕ) → all_digits s ≡ true → i < length s → is_digit (get_or s i 0) ≡ true
digit_at s i e h =
    and_left (is_digit (get_or s i 0)) (all_digits (drop (suc i) s))
    (and_right (all_digits (take i s)) (is_digit (get_or s i 0) && all_digits (drop (suc i) s))
    (sym (all_append (take i s) (get_or s i 0 ∷ drop (suc i) s)) ∙ ap all_digits (sym (split_at s i 0 h)) ∙ e))

-- ---- the digits of a number

pub length_digits : (n x : ℕ) → length (digits n x) ≡ n
length_digits zero x = refl
length_digits (suc n) x = ap suc (length_digits n x)

pub all_digits_law : (n x : ℕ) → all_digits (digits n x) ≡ true
all_digits_law zero x = refl
all_digits_law (suc n) x = rw (digit_is (x / 16 ^ n % 16) (mod-lt (x / 16 ^ n) (omega arith)), all_digits_law n x) refl

-- the first digit apart
number_front : (n : ℕ) (s : List ℕ) (i : ℕ) → number_at (suc n) s i ≡ digit_of (get_or s i 0) * 16 ^ n + number_at n s (suc i)
number_front zero s i = let e : i + 0 ≡ i = omega arith in rw e (omega arith)
number_front (suc n) s i =
    let d : ℕ = digit_of (get_or s i 0) in
    let e : i + suc n ≡ suc i + n = omega arith in
    let f : (d * 16 ^ n + number_at n s (suc i)) * 16 ≡ d * 16 ^ suc n + number_at n s (suc i) * 16 =
    add-mul (d * 16 ^ n) (number_at n s (suc i)) 16 ∙ ap (λ (x : ℕ). x + number_at n s (suc i) * 16) (mul_assoc d (16 ^ n) 16 ∙ ap (λ (x : ℕ). d * x) (sym (pow-suc 16 n))) in
    rw (number_front n s i, e) (omega (arith, f))

-- a number by a digit and the digits below it
joined_mod : (x n : ℕ) → x / 16 ^ n % 16 * 16 ^ n + x % 16 ^ n ≡ x % 16 ^ suc n
joined_mod x n =
    let e : suc n * 4 ≡ 4 + n * 4 = omega arith in
    rw (digits_pow 4 n, digits_pow 4 (suc n), e) (sym (mod-pow-add x 4 (n * 4)))

-- the n digits of a number, wherever they stand, have its number
pub number_digits : (n x : ℕ) (a b : List ℕ) → number_at n (a ++ (digits n x ++ b)) (length a) ≡ x % 16 ^ n
number_digits zero x a b = sym (mod-one x)
number_digits (suc n) x a b =
    let d : ℕ = digit_byte (x / 16 ^ n % 16) in
    let s : List ℕ = a ++ d ∷ (digits n x ++ b) in
    let f : get_or s (length a) 0 ≡ d = get_or-append_seam a d (digits n x ++ b) 0 in
    let g : digit_of d ≡ x / 16 ^ n % 16 = digit_back (x / 16 ^ n % 16) (mod-lt (x / 16 ^ n) (omega arith)) in
    let l : length (a ++ d ∷ []) ≡ suc (length a) = length-append a (d ∷ []) ∙ omega arith in
    let r : number_at n s (suc (length a)) ≡ x % 16 ^ n =
    (λ i. number_at n (sym (append_snoc a d (digits n x ++ b)) i) (sym l i)) ∙ number_digits n x (a ++ d ∷ []) b in
    number_front n s (length a) ∙ rw (f, g, r) (joined_mod x n)

-- ---- digits with one number

pub same_digits : (n : ℕ) (s t : List ℕ) (i j : ℕ) → ((k : ℕ) → k < n → is_digit (get_or s (i + k) 0) ≡ true)
    → ((k : ℕ) → k < n → is_digit (get_or t (j + k) 0) ≡ true) → number_at n s i ≡ number_at n t j
    → (k : ℕ) → k < n → get_or s (i + k) 0 ≡ get_or t (j + k) 0
same_digits zero s t i j f g e k h = absurd (omega arith)
same_digits (suc n) s t i j f g e k h =
    let a : ℕ = get_or s (i + n) 0 in
    let b : ℕ = get_or t (j + n) 0 in
    let x = digit_value a (f n (omega arith)) in
    let y = digit_value b (g n (omega arith)) in
    let high : number_at n s i ≡ number_at n t j = omega (arith, e, x, y) in
    let low : digit_of a ≡ digit_of b = omega (arith, e, x, y) in
    by_test (ltb k n)
    (λ l. same_digits n s t i j (λ m u. f m (omega arith)) (λ m u. g m (omega arith)) high k (ltb-true k n l))
    (λ l. let z : k ≡ n = omega (arith, ltb-false k n l) in
    let c : a ≡ b = sym (byte_back a (f n (omega arith))) ∙ ap digit_byte low ∙ byte_back b (g n (omega arith)) in
    rw z c)
