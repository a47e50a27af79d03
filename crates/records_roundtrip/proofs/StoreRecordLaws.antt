-- The S3 record of a frame of kind 02: it is accepted, says what the frame says, and gives the frame.
-- Assumes nothing.
use mathlib.Core.Path.{◌≡◌, refl, sym, ap, ◌∙◌}
use mathlib.Core.List.{List, [], ◌∷◌, ◌++◌, append-nil}
use Prim.Native.Nat.{ℕ, ◌+◌, ◌-◌}
use native.Mathlib.Nat.{mod-eq_of_lt}
use native.Mathlib.Omega.{arith}
use lib.ListN.{length, drop, length-drop}
use lib.Seq.{take_all, take_at, drop-drop}
use borrow.Author.Tests.{le-leb}
use Rattle.hex_digits.specs.Digits.{number_at, digits}
use Rattle.hex_digits.proofs.DigitLaws.{all_append, all_digits_law, number_digits}
use Rattle.hex_digits.proofs.NumberLaws.{all_drop, number_before, number_after, number_drop}
use Rattle.board_lines.specs.Stores.{byte_count}
use Rattle.board_lines.proofs.FrameLaws.{StoreForm}
use Rattle.records_lines.specs.Records.{address_bytes, record_count, is_count, letter_s, checksum_of, record_body, record_address, record_data}
use Rattle.records_lines.specs.Conversions.{line_gives, store_frame, frames_from, frame_count, frames_of, record_converted, frame_body, store_record}
use Rattle.records_lines.proofs.StoreLaws.{length_record}
use Rattle.records_roundtrip.proofs.RecordLaws.{Valid, valid_accepted}
use Rattle.records_roundtrip.proofs.StoreFrameLaws.{storing_again}

module _ (s : List ℕ) (v : StoreForm s) where
  abbrev size : ℕ
  size = byte_count s + 5

  abbrev sum : ℕ
  sum = checksum_of (frame_body s)

  length_frame : length (frame_body s) ≡ length s
  length_frame = omega (arith, length-drop 2 s, v.long.least)

  record_count_law : record_count (store_record s) ≡ size
  record_count_law = number_digits 2 size (letter_s ∷ 51 ∷ []) (drop 2 s ++ digits 2 sum) ∙ mod-eq_of_lt (omega (arith, v.long.most))

  record_body_law : record_body (store_record s) ≡ frame_body s
  record_body_law = take_at (frame_body s) (digits 2 sum) (length (store_record s) - 4) (omega (arith, length_frame, length_record s (omega (arith, v.long.least))))

  record_sum : number_at 2 (store_record s) (length (store_record s) - 2) ≡ sum
  record_sum =
      let a : List ℕ = letter_s ∷ 51 ∷ frame_body s in
      let e : length (store_record s) - 2 ≡ length a = omega (arith, length_frame, length_record s (omega (arith, v.long.least))) in
      (λ i. number_at 2 (a ++ sym (append-nil (digits 2 sum)) i) (e i)) ∙ number_digits 2 sum a [] ∙ mod-eq_of_lt (omega arith)

  pub record_valid : Valid (store_record s)
  unfolding is_count address_bytes
  record_valid =
      record {
        parts =
            record {
              begins = refl;
              long = omega (arith, length_record s (omega (arith, v.long.least)), record_count_law, v.long.least, v.long.even);
              counted = rw (record_count_law, le-leb 5 size (omega arith)) refl;
              digits =
                  all_append (frame_body s) (digits 2 sum)
                  ∙ rw (all_append (digits 2 size) (drop 2 s), all_digits_law 2 size, all_drop 2 s v.good, all_digits_law 2 sum) refl;
            };
        sum = record_sum ∙ sym (ap checksum_of record_body_law);
      }

  pub record_address_law : record_address (store_record s) ≡ number_at 8 s 2
  unfolding address_bytes
  record_address_law =
      let d : List ℕ = digits 2 sum in
      number_after 8 (letter_s ∷ 51 ∷ digits 2 size) (drop 2 s ++ d) 0
      ∙ number_before 8 (drop 2 s) d 0 (omega (arith, length-drop 2 s, v.long.least))
      ∙ number_drop 8 2 s 0

  pub record_data_law : record_data (store_record s) ≡ drop 10 s
  unfolding address_bytes
  record_data_law = ap (drop 10) record_body_law ∙ drop-drop 8 2 s

  -- at most 32 bytes
  one_frame : frames_of (number_at 8 s 2) (drop 10 s) ≡ s ∷ []
  unfolding frames_from
  one_frame =
      let d : List ℕ = drop 10 s in
      let n : length d ≡ length s - 10 = length-drop 10 s in
      let e : frame_count d ≡ 1 = omega (arith, v.long.least, v.long.most) in
      ap (λ (k : ℕ). frames_from k (number_at 8 s 2) d) e
      ∙ ap (λ (x : List ℕ). store_frame (number_at 8 s 2) x ∷ []) (take_all 64 d (omega (arith, v.long.most)))
      ∙ ap (λ (x : List ℕ). x ∷ []) (storing_again s v)

  pub record_converted_law : record_converted (store_record s) ≡ line_gives (s ∷ [])
  record_converted_law =
      rw (valid_accepted (store_record s) record_valid) (ap line_gives ((λ i. frames_of (record_address_law i) (record_data_law i)) ∙ one_frame))
