-- Each premise of isolation is needed, and so is each part of it: two machines that meet the others are told apart.
-- Assumes nothing.
use Prim.Native.Nat.{ℕ, ◌/◌}
use mathlib.Core.Path.{◌≡◌, refl}
use mathlib.Core.Bool.{true, not}
use mathlib.Core.List.{[], ◌∷◌}
use native.Mathlib.Omega.{arith}
use lib.Dec.{T, eqb, T_not, lit<}
use borrow.Author.Tests.{eq-eqb}
use Rattle.memory.specs.Bytes.{Memory, load, store_answer, store_memory}
use Rattle.isa.specs.Decode.{decode_short, decode_bare, decode_of}
use Rattle.mmu.specs.declared.AccessKind.TheVariants.{Write}
use Rattle.mmu.specs.Walk.{segment_of, segment, nonpaged_of, page_of, walk_from, walk, route, marked, fresh, recorded}
use Rattle.access_spec.specs.Access.{touch, follow, access}
use Rattle.access_spec.specs.Program.{interpret, after}
use Rattle.machine.specs.Registers.{good_bank, stb}
use Rattle.machine.specs.Status.{reg}
use Rattle.datapath.specs.Data.{read_memory, read_data, write_memory, write_data}
use Rattle.datapath.specs.Parts.{onward, ◌>>=◌, request, parcel_request}
use Rattle.datapath.specs.Text.{fetch_parcel, fetch_parcels, fetch_after, fetch_text}
use Rattle.exec_spec.specs.Operands.{located, locate, read_place, read_operand, write_place, check_registers}
use Rattle.exec_spec.specs.Dyadic.{compare, move, perform, dyadic}
use Rattle.exec_spec.specs.Execute.{execute_niladic, execute_normal, execute}
use Rattle.step_spec.specs.Step.{fetch_instruction}
use Rattle.step_spec.specs.Timers.{counted}
use Rattle.run_spec.specs.Run.{act_confined, confined_attempt, confined_turn, advance, refusal, run}
use Rattle.isolation.specs.Sealed.{Sealed}
use Rattle.isolation.specs.Execution.{Report}
use Rattle.isolation_witness.specs.Memories.{word_at, byte_of, bytes_from, memory_of, only, stepping}
use Rattle.isolation_witness.specs.Premises.{Premise, unreached, unhidden, unwritten, apart, writes_unreached, paged_unreached, segments_unhidden, pages_unhidden, segments_unwritten, pages_unwritten, Assumption, Meets, Without, Partly, Distinguished, IsolationUnder, EachNeeded, EachPartNeeded, FalseWithout, AllFour, Elsewhere, OtherTable}
use Rattle.isolation_witness.specs.Counterexamples.{Pair, first_words, first_board, second_board, same_report, answer, differ, reached, hidden_table, hidden_segments, written_table, written_segments, twofold}
use Rattle.isolation_witness.proofs.MemoryLaws.{laid_agree}
use Rattle.isolation_witness.proofs.TestLaws.{kind_unreached, paged_unreached_law, segments_unhidden_law, pages_unhidden_law, segments_unwritten_law, pages_unwritten_law, meets, all_met}

-- ---- two machines that differ in a hidden word: what they answer, by computation

eqb_same : (n : ℕ) → eqb n n ≡ true
eqb_same n = eq-eqb n n refl

same_itself : (x : Report) → T (same_report x x)
same_itself x = simp eqb_same tt

not_same : (x y : Report) → T (not (same_report x y)) → x ≡ y → ⊥
not_same x y d e = T_not (same_report x y) d (rw e (same_itself y))

pair_apart : (Premises : Assumption) (t : Pair) → Premises (only (t.place / 0x1000)) (reg t.cpu stb) (memory_of (first_words t))
    → T (differ t) → Distinguished Premises
pair_apart Premises t assumed d =
    record {
      Hidden = only (t.place / 0x1000);
      a = first_board t;
      b = second_board t;
      registers = refl;
      others = laid_agree t.words t.place t.first t.second (t.place / 0x1000) refl;
      assumed = assumed;
      request = stepping t.budget;
      distinguished = not_same (answer t (first_board t)) (answer t (second_board t)) d;
    }

differences : T (differ reached) × T (differ hidden_table) × T (differ hidden_segments)
    × T (differ written_table) × T (differ written_segments) × T (differ twofold)
unfolding run refusal good_bank advance confined_turn confined_attempt act_confined fetch_instruction counted execute_niladic execute_normal execute compare move perform dyadic located locate read_place read_operand write_place check_registers fetch_parcel fetch_parcels fetch_after fetch_text onward ◌>>=◌ request parcel_request read_memory read_data write_memory write_data interpret after touch follow access segment_of segment nonpaged_of page_of walk_from walk route marked fresh recorded decode_short decode_bare decode_of load store_answer store_memory word_at byte_of bytes_from
differences = (tt, tt, tt, tt, tt, tt)

-- ---- what each meets

without_unreached : Without unreached (only 0) 0x1000 (memory_of (first_words reached))
without_unreached = let m = meets 1 (lit< tt) (first_words reached) 0 in (m unhidden refl, m unwritten refl, m apart refl)

pub each_part_needed : EachPartNeeded
each_part_needed writes_unreached =
    pair_apart (Partly writes_unreached) reached
    (without_unreached, kind_unreached 1 (lit< tt) (first_words reached) 0 Write refl) differences.0
each_part_needed paged_unreached =
    pair_apart (Partly paged_unreached) reached
    (without_unreached, λ k va e pa l h. absurd (paged_unreached_law 1 (lit< tt) (first_words reached) refl k va e pa h)) differences.0
each_part_needed segments_unhidden =
    let m = meets 1 (lit< tt) (first_words hidden_table) 0 in
    pair_apart (Partly segments_unhidden) hidden_table (
      (m unreached refl, m unwritten refl, m apart refl),
      segments_unhidden_law 1 (lit< tt) (first_words hidden_table) 0 refl,
    ) differences.1
each_part_needed pages_unhidden =
    let m = meets 1 (lit< tt) (first_words hidden_segments) 1 in
    pair_apart (Partly pages_unhidden) hidden_segments (
      (m unreached refl, m unwritten refl, m apart refl),
      pages_unhidden_law 1 (lit< tt) (first_words hidden_segments) 1 refl,
    ) differences.2
each_part_needed segments_unwritten =
    let m = meets 1 (lit< tt) (first_words written_table) 0 in
    pair_apart (Partly segments_unwritten) written_table (
      (m unreached refl, m unhidden refl, m apart refl),
      segments_unwritten_law 1 (lit< tt) (first_words written_table) refl,
    ) differences.3
each_part_needed pages_unwritten =
    let m = meets 1 (lit< tt) (first_words written_segments) 0 in
    pair_apart (Partly pages_unwritten) written_segments (
      (m unreached refl, m unhidden refl, m apart refl),
      pages_unwritten_law 1 (lit< tt) (first_words written_segments) refl,
    ) differences.4

-- ---- the premises as wholes

weaker : (Premises Less : Assumption) → ((H : ℕ → Type 0) (s : ℕ) (m : Memory) → Premises H s m → Less H s m)
    → Distinguished Premises → Distinguished Less
weaker Premises Less f t =
    record {
      Hidden = t.Hidden;
      a = t.a;
      b = t.b;
      registers = t.registers;
      others = t.others;
      assumed = f t.Hidden (reg t.a.cpu stb) t.a.memory t.assumed;
      request = t.request;
      distinguished = t.distinguished;
    }

pub each_needed : EachNeeded
each_needed unreached =
    weaker (Partly writes_unreached) (Without unreached) (λ H s m t. t.0) (each_part_needed writes_unreached)
each_needed unhidden =
    weaker (Partly segments_unhidden) (Without unhidden) (λ H s m t. t.0) (each_part_needed segments_unhidden)
each_needed unwritten =
    weaker (Partly segments_unwritten) (Without unwritten) (λ H s m t. t.0) (each_part_needed segments_unwritten)
each_needed apart =
    let m = meets 1 (lit< tt) (first_words twofold) 0 in
    pair_apart (Without apart) twofold (m unreached refl, m unhidden refl, m unwritten refl) differences.5

-- ---- no entry of the table in page 3 is valid

pub other_table : OtherTable
other_table =
    pair_apart Elsewhere reached (0x3000, (λ e. omega arith), all_met 3 (lit< tt) (first_words reached) 0 refl) differences.0

-- ---- so isolation fails without it, and the four are what isolation assumes

distinguished_false : (Premises : Assumption) → Distinguished Premises → IsolationUnder Premises → ⊥
distinguished_false Premises t f = t.distinguished (f t.Hidden t.a t.b t.registers t.others t.assumed (t.request ∷ [])).0.answer

pub false_without : FalseWithout
false_without p = distinguished_false (Without p) (each_needed p)

pub all_four : AllFour
all_four H s m =
    (λ f. record { unreached = f unreached; unhidden = f unhidden; unwritten = f unwritten; apart = f apart }, back)
  where
    back : Sealed H s m → (p : Premise) → Meets p H s m
    back t unreached = t.unreached
    back t unhidden = t.unhidden
    back t unwritten = t.unwritten
    back t apart = t.apart
