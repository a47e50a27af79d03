-- Records that are accepted, and the address and the data of those that have data.
-- Assumes nothing.
use mathlib.Core.Path.{◌≡◌, refl, ◌∙◌}
use mathlib.Core.Bool.{true}
use mathlib.Core.List.{List}
use Prim.Native.Nat.{ℕ, ◌+◌, ◌-◌, ◌*◌, ◌%◌, ◌^◌, ◌≤◌, ◌<◌}
use native.Mathlib.Omega.{arith}
use lib.ListN.{length, drop, length-drop}
use lib.Seq.{length-take-le}
use lib.Dec.{leb, eqb}
use borrow.Author.Tests.{leb-true, eq-eqb, eqb-true}
use Rattle.word.proofs.CaseLaws.{by_test, and_left, and_right}
use Rattle.word.proofs.MatchLaws.{within}
use Rattle.hex_digits.specs.Digits.{all_digits, number_at}
use Rattle.hex_digits.proofs.NumberLaws.{all_take, all_drop, number_small}
use Rattle.records_lines.specs.Records.{record_type, address_bytes, is_data_type, record_count, checksum_of, record_body, record_refusal, record_address, record_data}
use Rattle.records_lines.proofs.RecordLaws.{RecordParts, parts_record}
use Rattle.records_lines.proofs.ConversionLaws.{parts_of}

-- with the right checksum
pub record Valid (s : List ℕ) : Type 0 where
  pub parts : RecordParts s
  pub sum : number_at 2 s (length s - 2) ≡ checksum_of (record_body s)

-- ---- accepted and valid are one

module _ (s : List ℕ) where
  pub valid_accepted : Valid s → record_refusal s ≡ 0
  unfolding record_refusal
  valid_accepted v =
      rw (parts_record s v.parts, eq-eqb (number_at 2 s (length s - 2)) (checksum_of (record_body s)) v.sum) refl

  pub accepted_valid : record_refusal s ≡ 0 → Valid s
  unfolding record_refusal
  accepted_valid h =
      let p : RecordParts s = parts_of s h in
      let x : ℕ = number_at 2 s (length s - 2) in
      let y : ℕ = checksum_of (record_body s) in
      by_test (eqb x y)
      (λ f. record { parts = p; sum = eqb-true x y f })
      (λ f. absurd (omega (arith, rw (parts_record s p, f) at h)))

-- ---- address and data

-- S1, S2 and S3
module _ (P : ℕ → Type 0) where
  data_types : P 49 → P 50 → P 51 → (t : ℕ) → is_data_type t ≡ true → P t
  data_types p q r t h =
      let u : t ≤ 51 = leb-true t 51 (and_right (leb 49 t) (leb t 51) h) in
      within P 49 3 (((tt, p), q), r) t (leb-true 49 t (and_left (leb 49 t) (leb t 51) h)) (omega arith)

pub address_below : (s : List ℕ) → is_data_type (record_type s) ≡ true → record_address s < 2 ^ 32
unfolding address_bytes
address_below s h =
    data_types (λ (t : ℕ). number_at (address_bytes t * 2) s 4 < 2 ^ 32)
    (omega (arith, number_small 4 s 4)) (omega (arith, number_small 6 s 4)) (number_small 8 s 4) (record_type s) h

module _ (s : List ℕ) (v : Valid s) where
  pub length_body : length (record_body s) ≡ 2 * record_count s
  length_body =
      length-take-le (length s - 4) (drop 2 s) (rw (length-drop 2 s) (omega arith)) ∙ omega (arith, v.parts.long)

  pub data_even : length (record_data s) % 2 ≡ 0
  data_even =
      let a : ℕ = address_bytes (record_type s) in
      rw (length-drop (2 + a * 2) (record_body s), length_body) (omega arith)

  pub data_digits : all_digits (record_data s) ≡ true
  data_digits =
      all_drop (2 + address_bytes (record_type s) * 2) (record_body s) (all_take (length s - 4) (drop 2 s) v.parts.digits)
