-- What the programs print for lines that are accepted has no other newlines, so the round trips of lines are those of the programs.
-- Assumes nothing.
use mathlib.Core.Path.{◌≡◌, sym, ap, subst, ◌∙◌}
use mathlib.Core.List.{List, [], ◌∷◌, map}
use Prim.Native.Nat.{ℕ}
use native.Mathlib.Omega.{arith}
use lib.ListN.{drop}
use Rattle.word.proofs.ListLaws.{Each, no_others, ◌also◌}
use Rattle.lines.specs.Texts.{lines_of, lines_text, newline_at}
use Rattle.lines.proofs.TextLaws.{Plain, text_lines, plain_digits}
use Rattle.run_spec.specs.Run.{Board, board}
use Rattle.board_lines.proofs.FrameLaws.{StoreForm}
use Rattle.records_lines.specs.Conversions.{record_converted, frame_converted, store_record, Accepted, given_by}
use Rattle.records_conversion.specs.declared.Way.{Way}
use Rattle.records_conversion.specs.declared.Way.TheVariants.{In, Out}
use Rattle.records_conversion.specs.Conversion.{converted_by, conversion_program}
use Rattle.records_conversion.proofs.Stopping.{stopping}
use Rattle.board_conversation.specs.Conversation.{conversation}
use Rattle.records_roundtrip.specs.Loads.{record_loads, loads_over}
use Rattle.records_roundtrip.specs.BoardMemory.{loaded, Addressed}
use Rattle.records_roundtrip.specs.Programs.{ProgramsRoundTrip}
use Rattle.records_roundtrip.proofs.StoreRecordLaws.{record_valid}
use Rattle.records_roundtrip.proofs.RoundTrip.{each_map, each_storing, frames_out, frames_round_trip, records_round_trip}
use Rattle.records_roundtrip.proofs.BoardMemory.{records_loaded}

-- ---- a record and a frame have no newline

plain_frame : (s : List ℕ) → StoreForm s → Plain s
plain_frame s v = plain_digits s v.good

plain_record : (s : List ℕ) → StoreForm s → Plain (store_record s)
unfolding newline_at
plain_record s v = omega (arith, plain_digits (drop 2 (store_record s)) (record_valid s v).parts.digits)

plain_records : (l : List (List ℕ)) → Each StoreForm l → Each Plain (map store_record l)
plain_records [] no_others = no_others
plain_records (s ∷ l) (v also e) = plain_record s v also plain_records l e

given_plain : (w : Way) (l : List (List ℕ)) → Accepted (converted_by w) l → Each Plain (given_by (converted_by w) l)
given_plain In l h =
    let f : List (List ℕ) = given_by record_converted l in
    each_map StoreForm Plain plain_frame f (each_storing f (records_round_trip l h).accepted)
given_plain Out l h =
    let e : Each StoreForm l = each_storing l h in
    subst (Each Plain) (sym (frames_out l e)) (plain_records l e)

-- ---- what the programs print

module _ (w : Way) (t : List ℕ) (h : Accepted (converted_by w) (lines_of t)) where
  prints : conversion_program w t ≡ lines_text (given_by (converted_by w) (lines_of t))
  prints = stopping.accepted w 0 (lines_of t) h

  printed_lines_law : lines_of (conversion_program w t) ≡ given_by (converted_by w) (lines_of t)
  printed_lines_law = ap lines_of prints ∙ text_lines (given_by (converted_by w) (lines_of t)) (given_plain w (lines_of t) h)

frames_again : (t : List ℕ) → Accepted frame_converted (lines_of t) → conversion_program In (conversion_program Out t) ≡ lines_text (lines_of t)
frames_again t h =
    let r = frames_round_trip (lines_of t) h in
    let e = printed_lines_law Out t h in
    prints In (conversion_program Out t) (subst (Accepted record_converted) (sym e) r.accepted)
    ∙ ap (λ (l : List (List ℕ)). lines_text (given_by record_converted l)) e
    ∙ ap lines_text r.same

module _ (t : List ℕ) (h : Accepted record_converted (lines_of t)) where
  abbrev again : List ℕ
  again = conversion_program Out (conversion_program In t)

  records_again : loads_over record_loads (lines_of again) ≡ loads_over record_loads (lines_of t)
  records_again =
      let r = records_round_trip (lines_of t) h in
      let e = printed_lines_law In t h in
      let a = subst (Accepted frame_converted) (sym e) r.accepted in
      ap (loads_over record_loads) (printed_lines_law Out (conversion_program In t) a ∙ ap (given_by frame_converted) e) ∙ r.same

  board_loads : (b : Board) → Addressed b → (conversation 1 (lines_of (conversion_program In t)) b).printed ≡ []
      → (conversation 1 (lines_of (conversion_program In t)) b).board ≡ board b.cpu (loaded (loads_over record_loads (lines_of t)) b.memory)
  board_loads b a q =
      let e = printed_lines_law In t h in
      ap (λ (l : List (List ℕ)). (conversation 1 l b).board) e
      ∙ records_loaded 1 (lines_of t) b a
      (record { accepted = h; quiet = ap (λ (l : List (List ℕ)). (conversation 1 l b).printed) (sym e) ∙ q })

pub programs_round_trip : ProgramsRoundTrip
programs_round_trip =
    record { given = printed_lines_law; frames = frames_again; records = records_again; loads = λ t b a h q. board_loads t h b a q }
