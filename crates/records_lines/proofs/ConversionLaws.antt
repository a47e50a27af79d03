-- A line converted: the ways out, a record's refusal, its frames or nothing, a frame's refusal or its record.
-- Assumes nothing.
use mathlib.Core.Bool.{false≢true}
use Rattle.std.proofs.Common.{◌≡◌, ℕ, ◌+◌, ◌-◌, ◌*◌, ◌<◌, ◌≤◌, Bool, true, false, Option, Some, None, List, [], ◌∷◌, ◌++◌, length, get_or, take, drop, sym, refl, ap, ◌∙◌, append-nil, arith, ne_eqb, length-take-le, drop-drop, take-append-drop, length-drop}
use Rattle.refusals.specs.declared.Refusal.{Refusal}
use Rattle.refusals.specs.declared.Refusal.TheVariants.{MemorySize, Register, InterruptLevel, LostStack, NoEncoding, CutText, MalformedLine, OutsideMemory, LevelNotUser, MalformedRecord, WrongChecksum, OtherKind}
use Rattle.refusals.specs.Numbers.{number_of}
use Rattle.word.proofs.CaseLaws.{by_test}
use Rattle.hex_digits.specs.Digits.{all_digits, number_at}
use Rattle.hex_digits.specs.Output.{Output, newline, printed}
use Rattle.hex_digits.proofs.NumberLaws.{all_take, all_drop, number_before, number_drop}
use Rattle.hex_digits.proofs.OutputLaws.{printed_none}
use Rattle.lines.specs.Texts.{lines_text}
use Rattle.lines.proofs.CarryLaws.{drop_take}
use Rattle.board_lines.specs.declared.Frame.{Frame}
use Rattle.board_lines.specs.declared.Frame.TheVariants.{Set, Store, Run, Confined}
use Rattle.board_lines.specs.Lines.{numbers_of, is_length, frame_of}
use Rattle.board_lines.proofs.FrameLaws.{length_told, same_frame, StoreForm, store_form}
use Rattle.records_lines.specs.Records.{record_type, address_bytes, is_data_type, record_count, is_record, record_body, record_refusal, record_address, record_data}
use Rattle.records_lines.specs.Conversions.{frames_of, record_converted, store_record, store_converted, frame_converted, LineConverted, line_output, output_of}
use Rattle.records_lines.proofs.RecordLaws.{RecordParts, least_count, record_parts, none_refused, no_type}

-- no refusal has the number 0
pub is_refusal : (r : Refusal) → number_of r ≡ 0 → ⊥
is_refusal MemorySize e = absurd (omega (arith, e))
is_refusal Register e = absurd (omega (arith, e))
is_refusal InterruptLevel e = absurd (omega (arith, e))
is_refusal LostStack e = absurd (omega (arith, e))
is_refusal NoEncoding e = absurd (omega (arith, e))
is_refusal CutText e = absurd (omega (arith, e))
is_refusal MalformedLine e = absurd (omega (arith, e))
is_refusal OutsideMemory e = absurd (omega (arith, e))
is_refusal LevelNotUser e = absurd (omega (arith, e))
is_refusal MalformedRecord e = absurd (omega (arith, e))
is_refusal WrongChecksum e = absurd (omega (arith, e))
is_refusal OtherKind e = absurd (omega (arith, e))

-- ---- a record

pub parts_of : (s : List ℕ) → record_refusal s ≡ 0 → RecordParts s
parts_of s h =
    by_test (is_record s)
    (λ t. record_parts s (is_record s) refl t)
    (λ t. absurd (omega (arith, none_refused s (is_record s) refl t, h)))

-- the digits of address and data, and those of the address, as the code names them
abbrev both : List ℕ → List ℕ
both s = take (length s - 2 - 4) (drop 4 s)

abbrev front : ℕ → List ℕ → List ℕ
front w s = take (2 * w) (both s)

before : (n m : ℕ) (d : List ℕ) → n ≤ length (take m d) → number_at n (take m d) 0 ≡ number_at n d 0
before n m d l = sym (number_before n (take m d) (drop m d) 0 (omega arith)) ∙ ap (λ (x : List ℕ). number_at n x 0) (take-append-drop m d)

-- what is in a record whose address has w bytes
module _ (s : List ℕ) (h : 0 ≡ record_refusal s) (w : ℕ) (k : (w ≡ address_bytes (get_or s 1 0)) × ((0 < w) × (w ≤ 4))) where
  pub parts_least : 6 + 2 * w ≤ length s
  parts_least =
      let p = parts_of s (sym h) in
      omega (arith, k.0, p.long, least_count (record_type s) (record_count s) p.counted)

  length_both : length (both s) ≡ length s - 2 - 4
  length_both = length-take-le (length s - 2 - 4) (drop 4 s) (omega (arith, length-drop 4 s))

  pub parts_long : 2 * w ≤ length (both s)
  parts_long = omega (arith, length_both, parts_least)

  length_front : length (front w s) ≡ 2 * w
  length_front = length-take-le (2 * w) (both s) parts_long

  pub address_ready : (length (front w s) ≤ 8) × (all_digits (front w s) ≡ true)
  address_ready =
      let d : all_digits (drop 4 s) ≡ true = sym (ap all_digits (drop-drop 2 2 s)) ∙ all_drop 2 (drop 2 s) (parts_of s (sym h)).digits in
      (omega (arith, length_front, k.1.1), all_take (2 * w) (both s) (all_take (length s - 2 - 4) (drop 4 s) d))

  address_is : number_at (length (front w s)) (front w s) 0 ≡ record_address s
  address_is =
      let m : 2 * w ≡ address_bytes (record_type s) * 2 = omega (arith, k.0) in
      ap (λ (n : ℕ). number_at n (front w s) 0) length_front
      ∙ before (2 * w) (2 * w) (both s) (omega (arith, length_front))
      ∙ before (2 * w) (length s - 2 - 4) (drop 4 s) parts_long
      ∙ number_drop (2 * w) 4 s 0
      ∙ ap (λ (n : ℕ). number_at n s 4) m

  data_is : drop (2 * w) (both s) ≡ record_data s
  data_is =
      let m : 2 + 2 * w ≡ 2 + address_bytes (record_type s) * 2 = omega (arith, k.0) in
      let n : length s - 2 - 4 ≡ length s - 4 - 2 = omega arith in
      let b : both s ≡ drop 2 (record_body s) =
      (λ i. take (n i) (sym (drop-drop 2 2 s) i)) ∙ sym (drop_take 2 (length s - 4) (drop 2 s) (omega (arith, parts_least))) in
      ap (drop (2 * w)) b ∙ drop-drop (2 * w) 2 (record_body s) ∙ ap (λ (i : ℕ). drop i (record_body s)) m

module _ (s : List ℕ) (o : Output) where
  pub record_refused : (r : Refusal) → number_of r ≡ record_refusal s → line_output (number_of r) o ≡ output_of (record_converted s) o
  unfolding lines_text
  record_refused r e = rw (sym e, ne_eqb (number_of r) 0 (is_refusal r)) (ap (line_output (number_of r)) (sym (printed_none o)))

  module _ (h : 0 ≡ record_refusal s) where
    -- a record has a type
    pub none_type : 0 ≡ address_bytes (get_or s 1 0) → line_output 0 o ≡ output_of (record_converted s) o
    none_type z = absurd (false≢true (no_type (record_type s) (record_count s) z ∙ (parts_of s (sym h)).counted))

    module _ (t : Bool) (f : t ≡ is_data_type (get_or s 1 0)) where
      pub no_data : t ≡ false → line_output 0 o ≡ output_of (record_converted s) o
      unfolding lines_text
      no_data g = rw (sym h, sym f, g) (ap (line_output 0) (sym (printed_none o)))

      -- u and d are the digits of the address and those of the data
      pub data_put : (w : ℕ) (k : (w ≡ address_bytes (get_or s 1 0)) × ((0 < w) × (w ≤ 4))) (x : Output) (a : ℕ) (u d : List ℕ) → t ≡ true
          → u ≡ front w s → d ≡ drop (2 * w) (both s) → a ≡ number_at (length u) u 0 → x ≡ printed (lines_text (frames_of a d)) o
          → line_output 0 x ≡ output_of (record_converted s) o
      data_put w k x a u d g i j l m =
          let e : a ≡ record_address s = l ∙ ap (λ (z : List ℕ). number_at (length z) z 0) i ∙ address_is s h w k in
          let v : d ≡ record_data s = j ∙ data_is s h w k in
          rw (sym h, sym f, g) (ap (line_output 0) (m ∙ (λ b. printed (lines_text (frames_of (e b) (v b))) o)))

-- ---- a frame

module _ (s : List ℕ) (f : Option Frame) (e : numbers_of f ≡ numbers_of (frame_of s)) where
  frame_is : frame_of s ≡ f
  frame_is = sym (same_frame f (frame_of s) e)

  pub store_line : (a : ℕ) → f ≡ Some (Store a) → (is_length (length s) ≡ true) × (all_digits s ≡ true)
  store_line a h =
      let v : StoreForm s = store_form s (ap (λ (g : Option Frame). (numbers_of g).kind) (frame_is ∙ h)) in
      (length_told (length s) v.long, v.good)

  module _ (o : Output) where
    -- what gives no line
    refused_as : (n : ℕ) (g : Option Frame) → f ≡ g → store_converted s g ≡ record { refusal = n; lines = [] }
        → line_output n o ≡ output_of (frame_converted s) o
    unfolding lines_text
    refused_as n g h c =
        ap (line_output n) (sym (printed_none o))
        ∙ ap (λ (x : LineConverted). output_of x o) (sym (ap (store_converted s) (frame_is ∙ h) ∙ c))

    pub bad_line : f ≡ None → line_output 7 o ≡ output_of (frame_converted s) o
    unfolding store_converted
    bad_line h = refused_as 7 None h refl

    -- a frame of another kind
    pub other_line : (g : Frame) → f ≡ Some g → ((a : ℕ) → g ≡ Store a → ⊥) → line_output 15 o ≡ output_of (frame_converted s) o
    unfolding store_converted
    other_line (Set a b) h n = refused_as 15 (Some (Set a b)) h refl
    other_line (Store a) h n = absurd (n a refl)
    other_line (Run a b) h n = refused_as 15 (Some (Run a b)) h refl
    other_line (Confined a b) h n = refused_as 15 (Some (Confined a b)) h refl

    pub store_put : (x : Output) (a : ℕ) → f ≡ Some (Store a) → x ≡ printed (store_record s ++ newline ∷ []) o
        → line_output 0 x ≡ output_of (frame_converted s) o
    unfolding store_converted lines_text
    store_put x a h g =
        rw (frame_is ∙ h)
        (ap (line_output 0) (g ∙ ap (λ (t : List ℕ). printed t o) (sym (append-nil (store_record s ++ newline ∷ [])))))
