-- How much a line gives, and that a line of more bytes than any record or frame is refused.
-- Assumes nothing.
use Rattle.std.proofs.Common.{◌≡◌, ℕ, suc, ◌+◌, ◌-◌, ◌*◌, ◌≤◌, false, eqb, List, [], ◌∷◌, ◌++◌, length, drop, sym, refl, ap, arith, length-append, length-drop, length-take, Option, Some, None}
use Rattle.word.proofs.CaseLaws.{by_test}
use Rattle.hex_digits.proofs.NumberLaws.{number_small}
use Rattle.lines.specs.Texts.{lines_text}
use Rattle.board_lines.specs.declared.Frame.{Frame}
use Rattle.board_lines.specs.declared.Frame.TheVariants.{Set, Store, Run, Confined}
use Rattle.board_lines.specs.Lines.{is_length, frame_of, malformed_line}
use Rattle.board_lines.proofs.FrameLaws.{frame_length, too_long, bad_length}
use Rattle.records_lines.specs.Records.{record_type, is_data_type, is_record, record_body, malformed_record, record_refusal, record_address, record_data, address_bytes}
use Rattle.records_lines.specs.Conversions.{line_refused, record_converted, store_record, store_converted, frame_converted}
use Rattle.records_lines.proofs.FrameLaws.{length_frames}
use Rattle.records_lines.proofs.StoreLaws.{length_record}
use Rattle.records_lines.proofs.RecordLaws.{wrong_length, none_refused}

-- ---- at most two bytes for each of the line's, its newline counted

data_length : (s : List ℕ) → length (record_data s) ≤ length s - 4
data_length s =
    omega (arith, length-drop (2 + address_bytes (record_type s) * 2) (record_body s), length-take (length s - 4) (drop 2 s))

record_size : (s : List ℕ) → length (lines_text (record_converted s).lines) ≤ 2 * suc (length s)
unfolding lines_text
record_size s =
    by_test (eqb (record_refusal s) 0)
    (λ e. rw e
    (by_test (is_data_type (record_type s))
    (λ d. rw d (omega (arith, sym (length_frames (record_address s) (record_data s)), data_length s)))
    (λ d. rw d (omega arith))))
    (λ e. rw e (omega arith))

store_size : (s : List ℕ) (f : Option Frame) → 12 ≤ length s → length (lines_text (store_converted s f).lines) ≤ 2 * suc (length s)
unfolding store_converted lines_text
store_size s (Some (Set a b)) h = omega arith
store_size s (Some (Store a)) h =
    omega (
      arith,
      length-append (store_record s) (10 ∷ []),
      length-append (store_record s ++ 10 ∷ []) [],
      length_record s (omega arith),
    )
store_size s (Some (Run a b)) h = omega arith
store_size s (Some (Confined a b)) h = omega arith
store_size s None h = omega arith

bad_size : (s : List ℕ) → length (lines_text (store_converted s None).lines) ≤ 2 * suc (length s)
unfolding store_converted lines_text
bad_size s = omega arith

frame_size : (s : List ℕ) → length (lines_text (frame_converted s).lines) ≤ 2 * suc (length s)
frame_size s =
    by_test (is_length (length s))
    (λ h. store_size s (frame_of s) (frame_length (length s) h).least)
    (λ h. rw (sym (bad_length s false (sym h) refl)) (bad_size s))

pub sizes : (s : List ℕ) → (length (lines_text (record_converted s).lines) ≤ 2 * suc (length s))
    × (length (lines_text (frame_converted s).lines) ≤ 2 * suc (length s))
sizes s = (record_size s, frame_size s)

-- ---- a record has at most 514 bytes, since its count is a byte, and a frame at most 74

pub long_record : (s : List ℕ) → 515 ≤ length s → record_converted s ≡ line_refused malformed_record
long_record s h =
    let w : false ≡ is_record s = wrong_length s (λ e. absurd (omega (arith, number_small 2 s 2, e))) in
    rw (sym (none_refused s false w refl)) refl

pub long_frame : (s : List ℕ) → 515 ≤ length s → frame_converted s ≡ line_refused malformed_line
unfolding store_converted
long_frame s h = ap (store_converted s) (sym (too_long s (omega arith)))
