-- What a record is: its type, its count, its checksum and its address.
-- Assumes nothing.
use Rattle.hex_digits.proofs.DigitLaws.{digit_at}
use Rattle.std.proofs.Common.{◌≡◌, ℕ, ◌+◌, ◌-◌, ◌*◌, ◌%◌, ◌<◌, ◌≤◌, Bool, true, false, cond, ◌&&◌, eqb, leb, List, length, get_or, take, drop, sym, refl, ap, ◌∙◌, zero-add, arith, length-drop, eq-eqb, ne_eqb, eqb-true, le-leb, leb-true, ◌⊎◌, inl, inr, get_or-drop}
use borrow.Author.Rules.{part_to_end}
use borrow.Author.Tests.{eqb-false, lt-leb}
use Rattle.word.proofs.CaseLaws.{by_test, and_left, and_right}
use Rattle.hex_digits.specs.Digits.{is_decimal, all_digits, digit_of, number_at, is_digit}
use Rattle.board_lines.proofs.DigitLaws.{number_2}
use Rattle.records_lines.specs.Records.{record_type, record_count, address_bytes, may_have_data, is_count, letter_s, is_record, digit_bytes, byte_sum, checksum_of, record_body, record_refusal}

-- ---- types and counts

-- what no arm has, in two parts
from_52 : (t : ℕ) → 48 ≤ t → (t ≡ 48 → ⊥) → (t ≡ 49 → ⊥) → (t ≡ 50 → ⊥) → (t ≡ 51 → ⊥) → 52 ≤ t
from_52 t l a b c d = omega arith

is_54 : (t : ℕ) → 52 ≤ t → t ≤ 57 → (t ≡ 52 → ⊥) → (t ≡ 53 → ⊥) → (t ≡ 55 → ⊥) → (t ≡ 56 → ⊥) → (t ≡ 57 → ⊥) → t ≡ 54
is_54 t l u a b c d e = omega arith

-- one of two types
pub either_type : (t a b w : ℕ) → w ≡ address_bytes a → w ≡ address_bytes b → (0 < w) × (w ≤ 4) → (t ≡ a) ⊎ (t ≡ b)
    → (w ≡ address_bytes t) × ((0 < w) × (w ≤ 4))
either_type t a b w e f l h = elim h [ inl i ↦ (rw i e, l) | inr i ↦ (rw i f, l) ]

-- S4, S6 and what is no decimal digit
pub other_type : (t : ℕ) → ((t ≡ 48) ⊎ (t ≡ 53) → ⊥) → ((t ≡ 49) ⊎ (t ≡ 57) → ⊥) → ((t ≡ 50) ⊎ (t ≡ 56) → ⊥) → ((t ≡ 51) ⊎ (t ≡ 55) → ⊥)
    → (0 ≡ address_bytes t) × Unit {0}
unfolding address_bytes
other_type t a b c d =
    by_test (is_decimal t)
    (λ i. let l = from_52 t (leb-true 48 t (and_left (leb 48 t) (leb t 57) i)) (λ h. a (inl h)) (λ h. b (inl h)) (λ h. c (inl h)) (λ h. d (inl h)) in
    let u : t ≤ 57 = leb-true t 57 (and_right (leb 48 t) (leb t 57) i) in
    by_test (eqb t 52)
    (λ j. let k : t ≡ 52 = eqb-true t 52 j in (rw k refl, tt))
    (λ j. let k : t ≡ 54 = is_54 t l u (eqb-false t 52 j) (λ h. a (inr h)) (λ h. d (inr h)) (λ h. c (inr h)) (λ h. b (inr h)) in (rw k refl, tt)))
    (λ i. (rw i refl, tt))

module _ (t n : ℕ) where
  pub no_type : 0 ≡ address_bytes t → false ≡ is_count t n
  unfolding is_count
  no_type z = rw (sym z) refl

  module _ (w : ℕ) (e : (w ≡ address_bytes t) × ((0 < w) × (w ≤ 4))) where
    some : leb 1 (address_bytes t) ≡ true
    some = le-leb 1 (address_bytes t) (omega (arith, e.0, e.1.0))

    pub data_count : t ≤ 51 → leb (w + 1) n ≡ is_count t n
    unfolding is_count
    data_count g = rw (some, le-leb t 51 g, e.0) refl

    pub fixed_count : 51 < t → eqb n (w + 1) ≡ is_count t n
    unfolding is_count
    fixed_count g = rw (some, lt-leb t 51 g, e.0) refl

-- ---- the digits after the type

-- as the code names them
abbrev pub rest : List ℕ → List ℕ
rest s = take (length s - 2) (drop 2 s)

pub rest_is : (s : List ℕ) → rest s ≡ drop 2 s
rest_is s = part_to_end s 2

-- ---- records

module _ (s : List ℕ) where
  pub wrong_length : (length s ≡ 4 + 2 * record_count s → ⊥) → false ≡ is_record s
  unfolding is_record
  wrong_length h = by_test (eqb (get_or s 0 0) letter_s) (λ e. rw (e, ne_eqb (length s) (4 + 2 * record_count s) h) refl) (λ e. rw e refl)

  pub too_short : length s < 4 → false ≡ is_record s
  too_short h = wrong_length (λ g. absurd (omega arith))

  module _ (n : ℕ) (e : n ≡ digit_of (get_or s 2 0) * 16 + digit_of (get_or s 3 0)) where
    count_is : n ≡ record_count s
    count_is = e ∙ sym (number_2 s 2)

    pub record_told : (a b : Bool) → (eqb (get_or s 0 0) 83 && eqb (length s) (4 + 2 * n)) ≡ true → a ≡ is_count (get_or s 1 0) n
        → b ≡ all_digits (rest s) → (a && b) ≡ is_record s
    unfolding is_record
    record_told a b h f g = let c = sym count_is in rw (c, h) (λ i. f i && (g ∙ ap all_digits (rest_is s)) i)

    pub no_record : (eqb (get_or s 0 0) 83 && eqb (length s) (4 + 2 * n)) ≡ false → false ≡ is_record s
    unfolding is_record
    no_record h = let c = sym count_is in rw (c, h) refl

-- what a record's bytes are
pub record RecordParts (s : List ℕ) : Type 0 where
  pub begins : get_or s 0 0 ≡ letter_s
  pub long : length s ≡ 4 + 2 * record_count s
  pub counted : is_count (record_type s) (record_count s) ≡ true
  pub digits : all_digits (drop 2 s) ≡ true

module _ (s : List ℕ) (p : RecordParts s) where
  pub parts_record : is_record s ≡ true
  unfolding is_record
  parts_record =
      rw (eq-eqb (get_or s 0 0) letter_s p.begins, eq-eqb (length s) (4 + 2 * record_count s) p.long, p.counted, p.digits) refl

-- a count covers address and checksum
pub least_count : (t n : ℕ) → is_count t n ≡ true → address_bytes t + 1 ≤ n
unfolding is_count
least_count t n h =
    let a = address_bytes t in
    let g : cond (may_have_data t) (leb (a + 1) n) (eqb n (a + 1)) ≡ true =
    and_right (leb 1 a) (cond (may_have_data t) (leb (a + 1) n) (eqb n (a + 1))) h in
    by_test (may_have_data t) (λ e. leb-true (a + 1) n (rw e at g)) (λ e. omega (arith, eqb-true n (a + 1) (rw e at g)))

module _ (s : List ℕ) (t : Bool) (e : t ≡ is_record s) (h : t ≡ true) where
  pub record_parts : RecordParts s
  unfolding is_record
  record_parts =
      let c = record_count s in
      let a : Bool = eqb (get_or s 0 0) letter_s in
      let b : Bool = eqb (length s) (4 + 2 * c) in
      let i : Bool = is_count (record_type s) c in
      let all : (a && b && i && all_digits (drop 2 s)) ≡ true = sym e ∙ h in
      let front : (a && b && i) ≡ true = and_left (a && b && i) (all_digits (drop 2 s)) all in
      record {
        begins = eqb-true (get_or s 0 0) letter_s (and_left a b (and_left (a && b) i front));
        long = eqb-true (length s) (4 + 2 * c) (and_right a b (and_left (a && b) i front));
        counted = and_right (a && b) i front;
        digits = and_right (a && b && i) (all_digits (drop 2 s)) all;
      }

-- a record's digits, and its checksum read and made
module _ (s : List ℕ) (p : RecordParts s) where
  pub digit_in : (i : ℕ) → 2 ≤ i → i < length s → is_digit (get_or s i 0) ≡ true
  digit_in i l h =
      let k : 2 + (i - 2) ≡ i = omega arith in
      let d : is_digit (get_or (drop 2 s) (i - 2) 0) ≡ true = digit_at (drop 2 s) (i - 2) p.digits (omega (arith, length-drop 2 s)) in
      rw (get_or-drop 2 s (i - 2) 0, k) at d

  module _ (x y : ℕ) (g : x ≡ digit_of (get_or s (length s - 2) 0) * 16 + digit_of (get_or s (length s - 2 + 1) 0))
      (k : y ≡ 255 - (0 + byte_sum (digit_bytes (take (length s - 2 - 2) (drop 2 s)))) % 256) where
    sum_read : x ≡ number_at 2 s (length s - 2)
    sum_read = g ∙ sym (number_2 s (length s - 2))

    sum_made : y ≡ checksum_of (record_body s)
    sum_made = let q : length s - 2 - 2 ≡ length s - 4 = omega arith in k ∙ rw (zero-add, q) refl

    pub right_sum : x ≡ y → 0 ≡ record_refusal s
    unfolding record_refusal
    right_sum j = rw (parts_record s p, sym sum_read, sym sum_made, eq-eqb x y j) refl

    pub wrong_sum : (x ≡ y → ⊥) → 14 ≡ record_refusal s
    unfolding record_refusal
    wrong_sum j = rw (parts_record s p, sym sum_read, sym sum_made, ne_eqb x y j) refl

pub none_refused : (s : List ℕ) (t : Bool) → t ≡ is_record s → t ≡ false → 13 ≡ record_refusal s
unfolding record_refusal
none_refused s t e h = rw (sym e ∙ h) refl
