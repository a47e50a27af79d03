-- Records put on the board leave the bytes that they load; and in, out and in again they leave the same board.
-- Assumes nothing.
use mathlib.Core.Path.{◌≡◌, refl, sym, ap, ◌∙◌}
use mathlib.Core.List.{List, [], ◌∷◌, ◌++◌}
use Prim.Native.Nat.{ℕ, ◌+◌}
use native.Mathlib.Omega.{arith}
use lib.ListN.{length}
use lib.Dec.{leb}
use borrow.Author.Tests.{leb-true}
use Rattle.word.proofs.CaseLaws.{by_test}
use Rattle.word.proofs.ListLaws.{Each, no_others, ◌also◌}
use Rattle.hex_digits.specs.Digits.{number_at}
use Rattle.lines.specs.Texts.{next}
use Rattle.run_spec.specs.Run.{Board, board}
use Rattle.board_lines.specs.Stores.{byte_count, frame_store}
use Rattle.board_lines.proofs.FrameLaws.{StoreForm, form_store}
use Rattle.board_conversation.specs.Conversation.{frame_answer, line_answer, conversation}
use Rattle.records_lines.specs.Conversions.{record_converted, given_by}
use Rattle.records_roundtrip.specs.Loads.{LoadedByte, frame_loads, loads_over}
use Rattle.records_roundtrip.specs.BoardMemory.{loaded, Addressed, RecordsLoaded, LoadsDecide, RecordsInAgain}
use Rattle.records_roundtrip.proofs.MemoryLaws.{length_loaded, loaded_append, frame_stored}
use Rattle.records_roundtrip.proofs.RoundTrip.{each_storing, frames_round_trip, records_round_trip}

-- ---- a frame that is taken

module _ (n : ℕ) (s : List ℕ) (b : Board) (v : StoreForm s) where
  line_loads : Addressed b → (line_answer n s b).printed ≡ [] → (line_answer n s b).board ≡ board b.cpu (loaded (frame_loads s) b.memory)
  unfolding frame_answer frame_store
  line_loads h q =
      let a : ℕ = number_at 8 s 2 in
      by_test (leb (a + byte_count s) (length b.memory))
      (λ e. let f = leb-true (a + byte_count s) (length b.memory) e in
      rw (form_store s v, e)
      (ap (board b.cpu) (frame_stored s b.memory a v.long.even (omega (arith, v.long.least)) (omega arith))))
      (λ e. absurd (omega (arith, ap length (rw (form_store s v, e) at q))))

-- ---- and all of them

nothing_left : (x y : List ℕ) → x ++ y ≡ [] → x ≡ []
nothing_left [] y e = refl
nothing_left (a ∷ x) y e = absurd (omega (arith, ap length e))

nothing_right : (x y : List ℕ) → x ++ y ≡ [] → y ≡ []
nothing_right [] y e = e
nothing_right (a ∷ x) y e = absurd (omega (arith, ap length e))

frames_loaded : (n : ℕ) (l : List (List ℕ)) (b : Board) → Each StoreForm l → Addressed b → (conversation n l b).printed ≡ []
    → (conversation n l b).board ≡ board b.cpu (loaded (loads_over frame_loads l) b.memory)
unfolding conversation
frames_loaded n [] b no_others h q = refl
frames_loaded n (s ∷ l) b (v also e) h q =
    let m : List ℕ = loaded (frame_loads s) b.memory in
    let d : Board = (line_answer n s b).board in
    let t : List ℕ = (line_answer n s b).printed in
    let u : List ℕ = (conversation (next n) l d).printed in
    let f : d ≡ board b.cpu m = line_loads n s b v h (nothing_left t u q) in
    let g : length m ≡ length b.memory = length_loaded (frame_loads s) b.memory in
    ap (λ (x : Board). (conversation (next n) l x).board) f
    ∙ frames_loaded (next n) l (board b.cpu m) e (omega arith)
    (sym (ap (λ (x : Board). (conversation (next n) l x).printed) f) ∙ nothing_right t u q)
    ∙ ap (board b.cpu) (sym (loaded_append (frame_loads s) (loads_over frame_loads l) b.memory))

pub records_loaded : RecordsLoaded
records_loaded n l b h f =
    let r = records_round_trip l f.accepted in
    frames_loaded n (given_by record_converted l) b (each_storing (given_by record_converted l) r.accepted) h f.quiet
    ∙ ap (λ (x : List LoadedByte). board b.cpu (loaded x b.memory)) r.between

pub loads_decide : LoadsDecide
loads_decide n m k l b h f g e =
    records_loaded n k b h f
    ∙ ap (λ (x : List LoadedByte). board b.cpu (loaded x b.memory)) e
    ∙ sym (records_loaded m l b h g)

pub records_in_again : RecordsInAgain
records_in_again l h =
    let r = frames_round_trip (given_by record_converted l) (records_round_trip l h).accepted in
    record { accepted = r.accepted; same = λ n b. ap (λ (x : List (List ℕ)). conversation n x b) r.same }
