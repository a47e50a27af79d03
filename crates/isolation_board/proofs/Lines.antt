-- Lines that are confined runs or refused, on two boards that are equal but for hidden pages.
-- Assumes nothing.
use Prim.Native.Nat.{ℕ, zero, suc, ◌+◌, ◌-◌}
use mathlib.Core.Path.{◌≡◌, refl, ap, subst}
use mathlib.Core.Bool.{Bool, true, false, false≢true, cond, ◌&&◌}
use mathlib.Core.List.{List, [], ◌∷◌, ◌++◌}
use lib.ListN.{length}
use lib.Dec.{leb, ltb}
use Rattle.std.specs.Prelude.{Option, Some, None}
use Rattle.word.proofs.CaseLaws.{and_left, and_right}
use Rattle.memory.specs.Bytes.{Memory}
use Rattle.machine.specs.Registers.{Bank, is_register_place, settable, setting, assigned, set_register, register_refused}
use Rattle.machine.specs.Status.{Cpu}
use Rattle.run_spec.specs.Run.{Board, board, run_result, refused, refusal, turn_of, advance, unless_refused, run}
use Rattle.board_lines.specs.declared.Frame.{Frame}
use Rattle.board_lines.specs.declared.Frame.TheVariants.{Set, Store, Run, Confined}
use Rattle.board_lines.specs.Lines.{frame_of}
use Rattle.board_lines.specs.Stores.{byte_count, bytes_stored, store_result, outside_memory, frame_store}
use Rattle.board_lines.specs.Answers.{ran_line}
use Rattle.lines.specs.Texts.{lines_of, next}
use Rattle.board_conversation.specs.Conversation.{Answered, answered, was_set, was_stored, has_run, frame_answer, line_answer}
use Rattle.board_conversation.specs.Conversation.{conversation, with_totals}
use Rattle.isolation.specs.Execution.{RunRequest, confined, Report}
use Rattle.isolation.specs.Isolation.{Same, SameRuns, Apart}
use Rattle.isolation.proofs.Isolation.{isolation}
use Rattle.isolation_board.specs.Lines.{admits_frame, admits_lines, SameLines, ConfinedLines, ConfinedConversation, ConfinedProgram}

-- ---- what is refused changes nothing

module _ (b : Bank) (p v : ℕ) where
  set_refused : ltb 0 (set_register b p v).refusal ≡ true → set_register b p v ≡ setting register_refused b
  unfolding set_register
  set_refused h = go (is_register_place p && settable b (p - 1) v) h
    where
      go : (x : Bool) → ltb 0 (cond x (setting 0 (assigned b (p - 1) v)) (setting register_refused b)).refusal ≡ true
          → cond x (setting 0 (assigned b (p - 1) v)) (setting register_refused b) ≡ setting register_refused b
      go true h = absurd (false≢true h)
      go false h = refl

module _ (s m : List ℕ) (a : ℕ) where
  store_refused : ltb 0 (frame_store s m a).refusal ≡ true → frame_store s m a ≡ store_result outside_memory m
  unfolding frame_store
  store_refused h = go (leb (a + byte_count s) (length m)) h
    where
      go : (x : Bool) → ltb 0 (cond x (store_result 0 (bytes_stored (byte_count s) s m a)) (store_result outside_memory m)).refusal ≡ true
          → cond x (store_result 0 (bytes_stored (byte_count s) s m a)) (store_result outside_memory m) ≡ store_result outside_memory m
      go true h = absurd (false≢true h)
      go false h = refl

run_refused : (budget level : ℕ) (s : Board) → ltb 0 (refusal false level s) ≡ true
    → run false budget level s ≡ run_result 0 refused (refusal false level s) s
unfolding run
run_refused budget level s h = go (refusal false level s) h
  where
    go : (r : ℕ) → ltb 0 r ≡ true → unless_refused r (advance (turn_of false level) 0 budget s) s ≡ run_result 0 refused r s
    go zero h = absurd (false≢true h)
    go (suc r) h = refl

-- ---- refusals go by the machine and the memory's length

module _ (m n : Memory) (l : length m ≡ length n) where
  store_same : (s : List ℕ) (a : ℕ) → (frame_store s m a).refusal ≡ (frame_store s n a).refusal
  unfolding frame_store
  store_same s a = rw l (go (leb (a + byte_count s) (length n)))
    where
      go : (x : Bool) → (cond x (store_result 0 (bytes_stored (byte_count s) s m a)) (store_result outside_memory m)).refusal
          ≡ (cond x (store_result 0 (bytes_stored (byte_count s) s n a)) (store_result outside_memory n)).refusal
      go true = refl
      go false = refl

  refusal_same : (level : ℕ) (c : Cpu) → refusal false level (board c m) ≡ refusal false level (board c n)
  unfolding refusal
  refusal_same level c = rw l refl

-- ---- a line

module _ (H : ℕ → Type 0) (a₀ b₀ : Board) where
  -- boards that are the same, and on which every list of confined runs is
  pub record Alike (a b : Board) : Type 0 where
    pub now : Same H a₀ b₀ a b
    pub later : (os : List RunRequest) → SameRuns H a₀ b₀ os a b

  record AnsweredAlike (x y : Answered) : Type 0 where
    printed : x.printed ≡ y.printed
    left : Alike x.board y.board

  unchanged : (t : List ℕ) {a b : Board} → Alike a b → AnsweredAlike (answered a t) (answered b t)
  unchanged t h = record { printed = refl; left = h }

  module _ (i : ℕ) (s : List ℕ) (c : Cpu) (m n : Memory) (h : Alike (board c m) (board c n)) where
    confined_answered : (o : RunRequest) → AnsweredAlike (has_run (confined o (board c m))) (has_run (confined o (board c n)))
    confined_answered o =
        let r = (h.later (o ∷ [])).0 in
        record {
          printed = ap (λ (x : Report). ran_line x.steps x.stop x.code x.counter x.status) r.answer;
          left = record { now = r.left; later = λ os. (h.later (o ∷ os)).1 };
        }

    run_answered : (budget level : ℕ) → ltb 0 (refusal false level (board c m)) ≡ true
        → AnsweredAlike (has_run (run false budget level (board c m))) (has_run (run false budget level (board c n)))
    run_answered budget level g =
        let e = refusal_same m n h.now.others.len level c in
        let f : ltb 0 (refusal false level (board c n)) ≡ true = rw e at g in
        rw (run_refused budget level (board c m) g, run_refused budget level (board c n) f, e) (unchanged _ h)

    store_answered : (a : ℕ) → ltb 0 (frame_store s m a).refusal ≡ true
        → AnsweredAlike (was_stored i (board c m) (frame_store s m a)) (was_stored i (board c n) (frame_store s n a))
    store_answered a g =
        let f : ltb 0 (frame_store s n a).refusal ≡ true = rw (store_same m n h.now.others.len s a) at g in
        rw (store_refused s m a g, store_refused s n a f) (unchanged _ h)

    set_answered : (p v : ℕ) → ltb 0 (set_register c.bank p v).refusal ≡ true
        → AnsweredAlike (was_set i (board c m) (set_register c.bank p v)) (was_set i (board c n) (set_register c.bank p v))
    set_answered p v g = rw (set_refused c.bank p v g) (unchanged _ h)

    frame_answered : (f : Option Frame) → admits_frame s (board c m) f ≡ true
        → AnsweredAlike (frame_answer i s (board c m) f) (frame_answer i s (board c n) f)
    unfolding frame_answer
    frame_answered (Some (Set place word)) g = set_answered place word g
    frame_answered (Some (Store address)) g = store_answered address g
    frame_answered (Some (Run budget level)) g = run_answered budget level g
    frame_answered (Some (Confined budget level)) g = confined_answered (record { budget = budget; level = level })
    frame_answered None g = unchanged _ h

  line_answered_law : (i : ℕ) (s : List ℕ) (a b : Board) → Alike a b → admits_frame s a (frame_of s) ≡ true
      → AnsweredAlike (line_answer i s a) (line_answer i s b)
  line_answered_law i s a b h g =
      subst (λ (d : Cpu). Alike a (board d b.memory) → AnsweredAlike (line_answer i s a) (line_answer i s (board d b.memory)))
      h.now.registers (λ k. frame_answered i s a.cpu a.memory b.memory k (frame_of s) g) h

  -- ---- a list of them

  pub lines_same : (i : ℕ) (t : List (List ℕ)) (a b : Board) → Alike a b → admits_lines i t a ≡ true
      → SameLines H a₀ b₀ i t a b × Alike (conversation i t a).board (conversation i t b).board
  unfolding conversation
  lines_same i [] a b h g = (tt, h)
  lines_same i (s ∷ t) a b h g =
      let a' = (line_answer i s a).board in
      let x = line_answered_law i s a b h (and_left (admits_frame s a (frame_of s)) (admits_lines (next i) t a') g) in
      let k = and_right (admits_frame s a (frame_of s)) (admits_lines (next i) t a') g in
      let y = lines_same (next i) t a' (line_answer i s b).board x.left k in
      ((record { printed = x.printed; left = x.left.now }, y.0), y.1)

  pub printed_same : (i : ℕ) (t : List (List ℕ)) (a b : Board) → SameLines H a₀ b₀ i t a b
      → (conversation i t a).printed ≡ (conversation i t b).printed
  unfolding conversation
  printed_same i [] a b h = refl
  printed_same i (s ∷ t) a b h =
      let e = printed_same (next i) t (line_answer i s a).board (line_answer i s b).board h.1 in
      rw h.0.printed (ap (λ (p : List ℕ). (line_answer i s b).printed ++ p) e)

-- two boards that are equal but for hidden pages
pub alike : (H : ℕ → Type 0) (a b : Board) → Apart H a b → Alike H a b a b
alike H a b p =
    record {
      now = record {
        registers = p.registers;
        others = p.others;
        first_a = record { len = refl; same = λ x h. refl };
        first_b = record { len = refl; same = λ x h. refl };
      };
      later = isolation H a b p;
    }

pub confined_lines : ConfinedLines
confined_lines H a b p n lines g = (lines_same H a b n lines a b (alike H a b p) g).0

pub confined_conversation : ConfinedConversation
confined_conversation H a b p n lines g =
    let x = lines_same H a b n lines a b (alike H a b p) g in
    (printed_same H a b n lines a b x.0, x.1.now)

pub confined_program : ConfinedProgram
confined_program H a b p input g = ap with_totals (confined_conversation H a b p 1 (lines_of input) g).0
