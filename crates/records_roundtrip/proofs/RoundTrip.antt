-- Frames out and in again are the same frames; records in and out load the same bytes.
-- Assumes nothing.
use mathlib.Core.Path.{◌≡◌, refl, sym, ap, subst, ◌∙◌}
use mathlib.Core.List.{List, [], ◌∷◌, ◌++◌, map}
use Prim.Native.Nat.{ℕ}
use lib.Dec.{eqb}
use borrow.Author.Tests.{eqb-true}
use Rattle.word.proofs.CaseLaws.{by_test}
use Rattle.word.proofs.ListLaws.{Each, no_others, ◌also◌}
use Rattle.board_lines.proofs.FrameLaws.{StoreForm}
use Rattle.records_lines.specs.Records.{record_type, is_data_type, digit_bytes, record_refusal, record_address, record_data}
use Rattle.records_lines.specs.Conversions.{record_frames, record_converted, store_record, frame_converted, Accepted, given_by}
use Rattle.records_roundtrip.specs.Loads.{loads_from, record_loads, frame_loads, loads_over}
use Rattle.records_roundtrip.specs.RoundTrip.{FramesRoundTrip, RecordsRoundTrip}
use Rattle.records_roundtrip.proofs.LoadLaws.{over_append}
use Rattle.records_roundtrip.proofs.RecordLaws.{Valid, valid_accepted, accepted_valid, address_below, data_even, data_digits}
use Rattle.records_roundtrip.proofs.StoreFrameLaws.{accepted_storing, storing_converted}
use Rattle.records_roundtrip.proofs.StoreRecordLaws.{record_address_law, record_data_law, record_converted_law}
use Rattle.records_roundtrip.proofs.FramesLaws.{all_storing, all_load}

-- ---- each of a list

pub each_map : {A : Type 0} (P Q : A → Type 0) → ((y : A) → P y → Q y) → (l : List A) → Each P l → Each Q l
each_map P Q f [] no_others = no_others
each_map P Q f (y ∷ l) (p also e) = f y p also each_map P Q f l e

each_append : {A : Type 0} (P : A → Type 0) (l m : List A) → Each P l → Each P m → Each P (l ++ m)
each_append P [] m no_others g = g
each_append P (y ∷ l) m (p also e) g = p also each_append P l m e g

-- ---- frames out

storing_accepted : (s : List ℕ) → StoreForm s → (frame_converted s).refusal ≡ 0
storing_accepted s v = (λ i. (storing_converted s v i).refusal)

pub frames_out : (l : List (List ℕ)) → Each StoreForm l → given_by frame_converted l ≡ map store_record l
frames_out [] no_others = refl
frames_out (s ∷ l) (v also e) = (λ i. (storing_converted s v i).lines ++ frames_out l e i)

out_accepted : (l : List (List ℕ)) → Each StoreForm l → Accepted record_converted (map store_record l)
out_accepted [] no_others = no_others
out_accepted (s ∷ l) (v also e) = (λ i. (record_converted_law s v i).refusal) also out_accepted l e

out_in : (l : List (List ℕ)) → Each StoreForm l → given_by record_converted (map store_record l) ≡ l
out_in [] no_others = refl
out_in (s ∷ l) (v also e) = (λ i. (record_converted_law s v i).lines ++ out_in l e i)

out_load : (l : List (List ℕ)) → Each StoreForm l → loads_over record_loads (map store_record l) ≡ loads_over frame_loads l
out_load [] no_others = refl
out_load (s ∷ l) (v also e) = (λ i. loads_from (record_address_law s v i) (digit_bytes (record_data_law s v i)) ++ out_load l e i)

pub each_storing : (l : List (List ℕ)) → Accepted frame_converted l → Each StoreForm l
each_storing l h = each_map (λ (s : List ℕ). (frame_converted s).refusal ≡ 0) StoreForm accepted_storing l h

pub frames_round_trip : FramesRoundTrip
frames_round_trip l h =
    let e : Each StoreForm l = each_storing l h in
    let g : map store_record l ≡ given_by frame_converted l = sym (frames_out l e) in
    record {
      accepted = subst (Accepted record_converted) g (out_accepted l e);
      same = sym (ap (given_by record_converted) g) ∙ out_in l e;
    }

-- ---- records in

converted_valid : (s : List ℕ) → (record_converted s).refusal ≡ 0 → Valid s
converted_valid s h =
    accepted_valid s (by_test (eqb (record_refusal s) 0) (λ e. eqb-true (record_refusal s) 0 e) (λ e. rw e at h))

module _ (s : List ℕ) (v : Valid s) where
  record_gives : (record_converted s).lines ≡ record_frames s
  record_gives = rw (valid_accepted s v) refl

  frames_storing : Each StoreForm (record_frames s)
  frames_storing =
      by_test (is_data_type (record_type s))
      (λ e. rw e (all_storing (record_address s) (record_data s) (data_even s v) (data_digits s v)))
      (λ e. rw e no_others)

  frames_load : loads_over frame_loads (record_frames s) ≡ record_loads s
  frames_load =
      by_test (is_data_type (record_type s))
      (λ e. rw e (all_load (record_address s) (record_data s) (data_even s v) (address_below s e)))
      (λ e. rw e refl)

records_storing : (l : List (List ℕ)) → Each Valid l → Each StoreForm (given_by record_converted l)
records_storing [] no_others = no_others
records_storing (s ∷ l) (v also e) =
    subst (λ (f : List (List ℕ)). Each StoreForm (f ++ given_by record_converted l)) (sym (record_gives s v))
    (each_append StoreForm (record_frames s) (given_by record_converted l) (frames_storing s v) (records_storing l e))

records_load : (l : List (List ℕ)) → Each Valid l → loads_over frame_loads (given_by record_converted l) ≡ loads_over record_loads l
records_load [] no_others = refl
records_load (s ∷ l) (v also e) =
    ap (λ (f : List (List ℕ)). loads_over frame_loads (f ++ given_by record_converted l)) (record_gives s v)
    ∙ over_append frame_loads (record_frames s) (given_by record_converted l)
    ∙ (λ i. frames_load s v i ++ records_load l e i)

pub records_round_trip : RecordsRoundTrip
records_round_trip l h =
    let e : Each Valid l = each_map (λ (s : List ℕ). (record_converted s).refusal ≡ 0) Valid converted_valid l h in
    let f : List (List ℕ) = given_by record_converted l in
    let g : Each StoreForm f = records_storing l e in
    record {
      accepted = each_map StoreForm (λ (s : List ℕ). (frame_converted s).refusal ≡ 0) storing_accepted f g;
      between = records_load l e;
      same = ap (loads_over record_loads) (frames_out f g) ∙ out_load f g ∙ records_load l e;
    }
