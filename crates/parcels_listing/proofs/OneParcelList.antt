-- The listing is the list, and nothing else is.
-- Assumes nothing.
use Prim.Native.Nat.{ℕ, suc, ◌+◌, ◌-◌, ◌*◌, ◌/◌, ◌%◌, ◌^◌, ◌≤◌, ◌<◌}
use mathlib.Core.Path.{◌≡◌, refl, sym, ap, ◌∙◌}
use mathlib.Core.Bool.{true, false, true≢false}
use mathlib.Core.List.{List, [], ◌∷◌, ◌++◌, append_assoc}
use native.Mathlib.Nat.{mod-eq_of_lt, mod-lt, div-add-mod'}
use native.Mathlib.Omega.{arith}
use lib.ListN.{length, get_or, take, drop, length-append, get_or-append}
use lib.Seq.{get_or-append-add, ext_get_or}
use lib.Dec.{ltb}
use borrow.Author.Tests.{ltb-true, ltb-false, lt-ltb}
use Rattle.word.proofs.CaseLaws.{by_test, and_left, and_right}
use Rattle.isa.specs.declared.Undecoded.TheVariants.{Illegal, Unimplemented, Truncated}
use Rattle.isa.specs.Fields.{short_opcode, short_operands}
use Rattle.isa.specs.Decode.{cpu_prefix, decode_of, decode_prefixed}
use Rattle.isa.specs.Encode.{text1}
use Rattle.hex_digits.specs.Digits.{is_digit, all_digits, number_at, digits}
use Rattle.hex_digits.specs.Output.{newline}
use Rattle.hex_digits.proofs.DigitLaws.{all_append, all_digits_law, digit_at, number_digits, same_digits}
use Rattle.parcels_listing.specs.Listing.{is_legal, on_list, parcel_count, listed_from, parcel_line, line_size, parcel_lines, listing}
use Rattle.parcels_listing.specs.OneParcelList.{parcel_at, opcode_at, operands_at, LegalParcel, HasLine, IsList, OneList}
use Rattle.parcels_listing.proofs.ListingLaws.{member_at, rising_list, place_of_law}
use Rattle.parcels_listing.proofs.LineLaws.{length_lines, line_at, first_lines}
use Rattle.parcels_listing.proofs.RisingLaws.{rising_once, rising_same, rising_count}
use Rattle.std.specs.Prelude.{Ok, Err}
use Rattle.isa.specs.Answers.{Decoded}

-- ---- a line in a text, read

module _ (a b : List ℕ) (q : ℕ) where
  abbrev text : List ℕ
  text = a ++ (parcel_line q ++ b)

  abbrev after : List ℕ
  after = digits 3 (short_operands q) ++ (newline ∷ b)

  read_parcel : number_at 4 text (length a) ≡ q % 16 ^ 4
  read_parcel = number_digits 4 q a (digits 2 (short_opcode q) ++ after)

  read_opcode : number_at 2 text (length a + 4) ≡ short_opcode q
  read_opcode =
      (λ i. number_at 2 (sym (append_assoc a (digits 4 q) (digits 2 (short_opcode q) ++ after)) i) (sym (length-append a (digits 4 q)) i))
      ∙ number_digits 2 (short_opcode q) (a ++ digits 4 q) after
      ∙ mod-eq_of_lt (omega arith)

  read_operands : number_at 3 text (length a + 6) ≡ short_operands q
  read_operands =
      let front = digits 4 q ++ digits 2 (short_opcode q) in
      (λ i. number_at 3 (sym (append_assoc a front after) i) (sym (length-append a front) i))
      ∙ number_digits 3 (short_operands q) (a ++ front) (newline ∷ b)
      ∙ mod-eq_of_lt (omega arith)

  read_byte : (i : ℕ) → i < line_size → get_or text (length a + i) 0 ≡ get_or (parcel_line q) i 0
  read_byte i h = get_or-append-add a (parcel_line q ++ b) i 0 ∙ get_or-append (parcel_line q) b 0 i h

line_digits : (q : ℕ) → all_digits (digits 4 q ++ digits 2 (short_opcode q) ++ digits 3 (short_operands q)) ≡ true
line_digits q =
    all_append (digits 4 q ++ digits 2 (short_opcode q)) (digits 3 (short_operands q))
    ∙ rw (all_append (digits 4 q) (digits 2 (short_opcode q)), all_digits_law 4 q, all_digits_law 2 (short_opcode q), all_digits_law 3 (short_operands q)) refl

line_digit : (q i : ℕ) → i < 9 → is_digit (get_or (parcel_line q) i 0) ≡ true
line_digit q i h =
    let ds = digits 4 q ++ digits 2 (short_opcode q) ++ digits 3 (short_operands q) in
    ap is_digit (get_or-append ds (newline ∷ []) 0 i h) ∙ digit_at ds i (line_digits q) h

-- ---- legal and on the list

legal_answer : (d : Decoded) → (d ≡ Err Illegal → ⊥) → ((v : ℕ) → d ≡ Err (Unimplemented v) → ⊥) → is_legal d ≡ true
legal_answer (Ok (i, n)) f g = refl
legal_answer (Err Illegal) f g = absurd (f refl)
legal_answer (Err (Unimplemented v)) f g = absurd (g v refl)
legal_answer (Err Truncated) f g = refl

answer_legal : (d e : Decoded) → is_legal d ≡ true → is_legal e ≡ false → d ≡ e → ⊥
answer_legal d e f g h = absurd (true≢false (sym f ∙ ap is_legal h ∙ g))

pub legal_listed_law : (p : ℕ) → p < 0x8000 → LegalParcel p → on_list p ≡ true
unfolding on_list
legal_listed_law p h l = rw (lt-ltb p 0x8000 h) (legal_answer (decode_of (text1 p)) l.not_illegal l.not_unimplemented)

module _ (p : ℕ) (h : on_list p ≡ true) where
  pub listed_below : p < 0x8000
  unfolding on_list
  listed_below = ltb-true p 0x8000 (and_left (ltb p 0x8000) (is_legal (decode_of (text1 p))) h)

  pub listed_answer : is_legal (decode_of (text1 p)) ≡ true
  unfolding on_list
  listed_answer = and_right (ltb p 0x8000) (is_legal (decode_of (text1 p))) h

  pub listed_legal_law : LegalParcel p
  listed_legal_law =
      record {
        not_illegal = λ e. answer_legal (decode_of (text1 p)) (Err Illegal) listed_answer refl e;
        not_unimplemented = λ v e. answer_legal (decode_of (text1 p)) (Err (Unimplemented v)) listed_answer refl e;
      }

prefix_legal : LegalParcel cpu_prefix
unfolding decode_of decode_prefixed
prefix_legal =
    record {
      not_illegal = λ e. let z : ◌≡◌ {A = ℕ} 0 1 = cc in absurd (omega arith);
      not_unimplemented = λ v e. let z : ◌≡◌ {A = ℕ} 0 1 = cc in absurd (omega arith);
    }

-- ---- the listing

parcels : List ℕ
parcels = listed_from 0

abbrev count : ℕ
count = length parcels

-- the parcel of line k, and that it is on the list
module _ (k : ℕ) (h : k < count) where
  abbrev parcel : ℕ
  parcel = get_or parcels k 0

  on : on_list parcel ≡ true
  unfolding parcels
  on = (member_at parcel_count 0 k h).listed

  abbrev front : List ℕ
  front = parcel_lines (take k parcels)

  abbrev back : List ℕ
  back = parcel_lines (drop (suc k) parcels)

  lies : listing ≡ front ++ (parcel_line parcel ++ back)
  unfolding parcels
  lies = line_at parcels k h

  starts : k * line_size ≡ length front
  starts = sym (first_lines parcels k (omega arith))

  line_parcel : parcel_at listing k ≡ parcel
  line_parcel =
      (λ i. number_at 4 (lies i) (starts i)) ∙ read_parcel front back parcel ∙ mod-eq_of_lt (omega (arith, listed_below parcel on))

  line_opcode : opcode_at listing k ≡ short_opcode (parcel_at listing k)
  line_opcode = (λ i. number_at 2 (lies i) (starts i + 4)) ∙ read_opcode front back parcel ∙ ap short_opcode (sym line_parcel)

  line_operands : operands_at listing k ≡ short_operands (parcel_at listing k)
  line_operands = (λ i. number_at 3 (lies i) (starts i + 6)) ∙ read_operands front back parcel ∙ ap short_operands (sym line_parcel)

  line_byte : (i : ℕ) → i < line_size → get_or listing (k * line_size + i) 0 ≡ get_or (parcel_line parcel) i 0
  line_byte i g = (λ j. get_or (lies j) (starts j + i) 0) ∙ read_byte front back parcel i g

rises : (j k : ℕ) → j < k → k < count → parcel_at listing j < parcel_at listing k
unfolding parcels
rises j k g h = rw (line_parcel j (omega arith), line_parcel k h) (rising_list parcel_count 0 j k g h)

found_in : (p : ℕ) → on_list p ≡ true → HasLine listing count p
unfolding parcels
found_in p h =
    let f = place_of_law parcel_count 0 p (omega arith) (omega (arith, listed_below p h)) h in
    record { place = f.place; within = f.within; number = line_parcel f.place f.within ∙ f.number }

in_list : (p : ℕ) → HasLine listing count p → on_list p ≡ true
in_list p l = ap on_list (sym l.number ∙ line_parcel l.place l.within) ∙ on l.place l.within

size : length listing ≡ count * line_size
unfolding parcels
size = length_lines parcels

pub listing_is : IsList listing
listing_is =
    record {
      count = count;
      size = size;
      digit = λ k i h g. ap is_digit (line_byte k h i (omega arith)) ∙ line_digit (get_or parcels k 0) i g;
      ended = λ k h. line_byte k h 9 (omega arith);
      opcode = λ k h. line_opcode k h;
      operands = λ k h. line_operands k h;
      legal_listed = λ p h l. found_in p (legal_listed_law p h l);
      listed_legal = λ p h l. listed_legal_law p (in_list p l);
      no_other = λ p l. listed_below p (in_list p l);
      rising = rises;
      once = λ j k g h e. rising_once (parcel_at listing) count rises j k g h e;
      prefix = found_in cpu_prefix (legal_listed_law cpu_prefix (omega arith) prefix_legal);
    }

-- ---- no other

module _ (s t : List ℕ) (x : IsList s) (y : IsList t) where
  line_of_other : (k : ℕ) → k < x.count → HasLine t y.count (parcel_at s k)
  line_of_other k h =
      let l : HasLine s x.count (parcel_at s k) = record { place = k; within = h; number = refl } in
      let b = x.no_other (parcel_at s k) l in
      y.legal_listed (parcel_at s k) b (x.listed_legal (parcel_at s k) b l)

  -- line k of both
  module _ (k : ℕ) (h : k < x.count) (g : k < y.count) (e : parcel_at s k ≡ parcel_at t k) where
    -- n digits of it from a place on, that stand in the texts from i on
    part_same : (n from i : ℕ) → i ≡ k * line_size + from → from + n ≤ 9 → number_at n s i ≡ number_at n t i
        → (r : ℕ) → from ≤ r → r < from + n → get_or s (k * line_size + r) 0 ≡ get_or t (k * line_size + r) 0
    part_same n from i z w f r l u =
        let at : (j : ℕ) → i + j ≡ k * line_size + (from + j) = λ j. omega arith in
        let here : k * line_size + r ≡ i + (r - from) = omega arith in
        rw here
        (same_digits n s t i i
        (λ j v. rw (at j) (x.digit k (from + j) h (omega arith)))
        (λ j v. rw (at j) (y.digit k (from + j) g (omega arith)))
        f (r - from) (omega arith))

    opcodes : opcode_at s k ≡ opcode_at t k
    opcodes = x.opcode k h ∙ ap short_opcode e ∙ sym (y.opcode k g)

    operands_same : operands_at s k ≡ operands_at t k
    operands_same = x.operands k h ∙ ap short_operands e ∙ sym (y.operands k g)

    line_same : (r : ℕ) → r < line_size → get_or s (k * line_size + r) 0 ≡ get_or t (k * line_size + r) 0
    line_same r l =
        by_test (ltb r 4)
        (λ a. part_same 4 0 (k * line_size) (omega arith) (omega arith) e r (omega arith) (ltb-true r 4 a))
        (λ a. by_test (ltb r 6)
        (λ b. part_same 2 4 (k * line_size + 4) refl (omega arith) opcodes r (ltb-false r 4 a) (ltb-true r 6 b))
        (λ b. by_test (ltb r 9)
        (λ c. part_same 3 6 (k * line_size + 6) refl (omega arith) operands_same r (ltb-false r 6 b) (ltb-true r 9 c))
        (λ c. let z : r ≡ 9 = omega (arith, ltb-false r 9 c) in rw z (x.ended k h ∙ sym (y.ended k g)))))

pub one_list : OneList
one_list s t x y =
    let f = parcel_at s in
    let g = parcel_at t in
    let fg = line_of_other s t x y in
    let gf = line_of_other t s y x in
    let c : x.count ≡ y.count = rising_count f g x.count y.count x.rising y.rising fg gf in
    ext_get_or 0 s t (x.size ∙ ap (λ (n : ℕ). n * line_size) c ∙ sym y.size)
    (λ i h. let k : ℕ = i / line_size in
    let r : ℕ = i % line_size in
    let e : i ≡ k * line_size + r = sym (div-add-mod' i line_size) in
    let u : k < x.count = omega (arith, x.size) in
    rw e (line_same s t x y k u (omega arith) (rising_same f g x.count y.count x.rising y.rising fg gf k u) r (mod-lt i (omega arith))))
