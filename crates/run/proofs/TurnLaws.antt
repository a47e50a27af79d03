-- The ways out of a turn.
-- Assumes nothing.
use Prim.Native.Nat.{ℕ, ◌+◌, ◌*◌, ◌/◌, ◌%◌, ◌^◌, ◌<◌, ◌≤◌}
use mathlib.Core.Path.{◌≡◌, refl, sym, ap, ◌∙◌}
use mathlib.Core.Bool.{Bool, true, false, cond, not}
use native.Mathlib.Omega.{arith}
use lib.Dec.{eqb}
use lib.ListN.{set, length, length-set}
use borrow.Author.Tests.{ne_eqb, lt-ltb, le-ltb}
use Rattle.memory.specs.Answers.{Answer, answer_of}
use Rattle.memory.specs.Bytes.{Memory}
use Rattle.memory.proofs.AnswerLaws.{answer_got, answer_high}
use Rattle.access_spec.specs.Access.{Response, response}
use Rattle.access_spec.specs.Program.{interpret}
use Rattle.access_spec.specs.Journal.{Journal, undo, journaled, logging}
use Rattle.access_spec.proofs.ByteLaws.{Bytes}
use Rattle.machine.specs.Registers.{Bank, word, config, psw, nmi_taken}
use Rattle.machine.specs.Cache.{Cache}
use Rattle.machine.specs.Status.{Cpu, cpu, reg, with, is_user}
use Rattle.machine.proofs.BankLaws.{word_set_other}
use Rattle.datapath.specs.Parts.{Out, ok, stop}
use Rattle.step_pending.specs.Traces.{traced_from}
use Rattle.step_spec.specs.Events.{Due, due_of, event_code, looked}
use Rattle.step_spec.specs.Timers.{counted}
use Rattle.step_spec.specs.Step.{traces_at, trace_falls, Stepped, stepped, step, holds_stack}
use Rattle.run_spec.specs.Run.{Board, board, Turn, goes, ends, event_due, if_stack_held, after_step, turn, ConfinedActed, carried_out, fetched, confined_attempt, after_attempt, attempt_turn, confined_for, confined_turn, turn_of}
use Rattle.step_pending.specs.Dues.{due_code, event_from, due_from}
use Rattle.machine.proofs.BankLaws.{Made}
use Rattle.exec.specs.Code.{attempt_of, attempted_out, confined_out}
use Rattle.exec.proofs.AttemptLaws.{confined_attempted}
use Rattle.step.proofs.EventLaws.{due_is, due_small, due_event}
use Rattle.invariants.proofs.CountLaws.{step_bounded, confined_bounded}
use Rattle.invariants.proofs.HeldLaws.{holds_traced, holds_counted}
use Rattle.run.specs.Code.{turned, attempt_ended}
use Rattle.run.proofs.BackLaws.{Long, plainly, put_back, still_long}

-- ---- the number of a stop

pub turned_stop : (n v : ℕ) (s : Board) → n < 2 ^ 32 → v ≡ 2 * 2 ^ 32 + n → turned v s ≡ ends event_due n s
turned_stop n v s h e =
    let f : (v ≡ 0 → ⊥) = λ z. omega arith in
    let g : v / 2 ^ 32 ≡ 2 = omega arith in
    let k : v % 2 ^ 32 ≡ n = omega arith in
    rw (ne_eqb v 0 f, g, k) refl

-- ---- number 4

module _ (b : Bank) (q : Cache) (k : Memory) (s : Board) (x : ℕ) (z : Bool) (ez : z ≡ holds_stack (cpu b q)) where
  pub judge_holds : z ≡ true → turned x (board (cpu b q) k) ≡ if_stack_held (holds_stack (cpu b q)) s (turned x (board (cpu b q) k))
  judge_holds h = rw (sym ez ∙ h) refl

  pub judge_lost : z ≡ false → (l : Board) → l ≡ s → turned 0x100000004 l ≡ if_stack_held (holds_stack (cpu b q)) s (turned x (board (cpu b q) k))
  judge_lost h l e = rw (sym ez ∙ h, e) refl

-- a turn by what it was judged on: u is what the undoing leaves
judged : (s : Board) (c d : Cpu) (u : Memory) (t : Turn) (f : Cpu → Turn) → c ≡ d → u ≡ s.memory
    → t ≡ if_stack_held (holds_stack c) (board s.cpu u) (f c) → t ≡ if_stack_held (holds_stack d) s (f d)
judged s c d u t f e g h =
    h ∙ ap (λ (x : Cpu). if_stack_held (holds_stack x) (board s.cpu u) (f x)) e ∙ ap (λ (m : Memory). if_stack_held (holds_stack d) (board s.cpu m) (f d)) g

pub begun_long : (m : Memory) (x : Journal) → Long m x → (x₀ : Journal) → x₀ ≡ set x 0 0 → length x₀ ≡ 201
begun_long m x long x₀ e = ap (λ (l : Journal). length l) e ∙ length-set x 0 0 ∙ long.1

-- ---- kind 03

module _ (level : ℕ) (b : Bank) (q : Cache) (m : Memory) (x : Journal) (long : Long m x) (bytes : Bytes m) (a : Bank) (p : Cache) (z : Bool) (k : Memory) (y : Journal)
    (x₀ : Journal) (ex : x₀ ≡ set x 0 0) (e : response (stepped (cpu a p) z) (journaled k y) ≡ interpret logging (step level (cpu b q)) (journaled m x₀)) where
  pub turn_long : length y ≡ 201
  turn_long = still_long 79 (step level (cpu b q)) (stepped (cpu a p) z) m x k y (step_bounded level (cpu b q)) (omega arith) long bytes x₀ ex e

  pub turn_taken : (d : Bank) → Made a d (λ c. counted (word b config) (not (is_user b)) z c)
      → (t : Turn) → t ≡ if_stack_held (holds_stack (cpu d p)) (board (cpu b q) (undo y k)) (goes (board (cpu d p) k))
      → t ≡ turn level (board (cpu b q) m)
  unfolding turn
  turn_taken d ed t h =
      judged s (cpu d p) after (undo y k) t (λ c. goes (board c k)) (ed p)
      (put_back 79 (step level (cpu b q)) (stepped (cpu a p) z) m x k y (step_bounded level (cpu b q)) (omega arith) long bytes x₀ ex e) h
      ∙ ap (λ (l : Bool). if_stack_held l s (goes (board after k))) (holds_counted (word b config) (not (is_user b)) z (cpu a p))
      ∙ ap (λ (g : Response Memory Stepped). after_step s g) (plainly (step level (cpu b q)) (stepped (cpu a p) z) (journaled m x₀) (journaled k y) e)
    where
      s : Board
      s = board (cpu b q) m

      after : Cpu
      after = counted (word b config) (not (is_user b)) z (cpu a p)

-- ---- kind 04, what an attempt leaves: b and q are before the look, a and p after the attempt, r its answer

looked_psw : (level : ℕ) (b : Bank) (q : Cache) → reg (looked level (cpu b q)) psw ≡ word b psw
looked_psw level b q = go (eqb level 0)
  where
    go : (t : Bool) → reg (cond t (cpu b q) (with (cpu b q) nmi_taken 0)) psw ≡ word b psw
    go true = refl
    go false = word_set_other b nmi_taken 0 psw refl

module _ (level : ℕ) (b : Bank) (q : Cache) (r : ℕ) (a : Bank) (p : Cache) (m : Memory) where
  abbrev settles : Answer → Turn
  settles x = attempt_ended (cpu b q) (looked level (cpu b q)) (confined_out x a p) m

  pub settle_fault : 2 ^ 32 ≤ r → (o g : ℕ) → o ≡ r % 2 ^ 32 → g ≡ 2 * 2 ^ 32 + o → turned g (board (cpu a p) m) ≡ settles (answer_of r)
  settle_fault h o g eo eg =
      turned_stop o g (board (cpu a p) m) (omega arith) eg
      ∙ ap (λ (j : ℕ). ends event_due j (board (cpu a p) m)) eo
      ∙ sym (ap settles (answer_high r h))

  -- only fetched: d is the bank looked at again
  pub settle_fetched : 3 ≤ r → r < 2 ^ 32 → (d : Bank) → Made b d (λ c. looked level c) → (g : ℕ) → g ≡ 2 * 2 ^ 32 + r
      → turned g (board (cpu d q) m) ≡ settles (answer_of r)
  settle_fetched l h d ed g eg =
      turned_stop r g (board (cpu d q) m) h eg
      ∙ ap (λ (c : Cpu). ends event_due r (board c m)) (ed q)
      ∙ sym (ap (λ (j : Out ConfinedActed). attempt_ended (cpu b q) (looked level (cpu b q)) j m) only)
    where
      only : confined_out (answer_of r) a p ≡ ok (fetched r)
      only = simp (answer_got r h, le-ltb r 3 l)

  -- finished: d is the bank with its trace, o with the timers too
  pub settle_done : r < 3 → (j : ℕ) → j ≡ r % 2 ^ 32 → (z : Bool) → z ≡ traces_at (word b psw) (traced_from j) → (d : Bank) → Made a d (λ c. trace_falls z c)
      → (o : Bank) → Made d o (λ c. counted (word b config) (not (is_user b)) true c) → goes (board (cpu o p) m) ≡ settles (answer_of r)
  settle_done h j ej z ez d ed o eo =
      ap (λ (c : Cpu). goes (board c m)) (eo p ∙ ap (λ (c : Cpu). counted (word b config) (not (is_user b)) true c) (ed p ∙ ap (λ (l : Bool). trace_falls l (cpu a p)) traces))
      ∙ sym (ap (λ (l : Out ConfinedActed). attempt_ended (cpu b q) (looked level (cpu b q)) l m) finished)
    where
      finished : confined_out (answer_of r) a p ≡ ok (carried_out (traced_from r) (cpu a p))
      finished = let l : r < 2 ^ 32 = omega arith in simp (answer_got r l, lt-ltb r 3 h)

      whole : j ≡ r
      whole = omega arith

      traces : z ≡ traces_at (reg (looked level (cpu b q)) psw) (traced_from r)
      traces = ez ∙ ap (λ (l : ℕ). traces_at (word b psw) (traced_from l)) whole ∙ ap (λ (l : ℕ). traces_at l (traced_from r)) (sym (looked_psw level b q))

-- the board that a turn leaves
abbrev board_of : Turn → Board
board_of (goes s) = s
board_of (ends n k s) = s

turned_board : (g : ℕ) (s : Board) → board_of (turned g s) ≡ s
turned_board g s = go (eqb g 0)
  where
    go : (t : Bool) → board_of (cond t (goes s) (ends (g / 2 ^ 32) (g % 2 ^ 32) s)) ≡ s
    go true = refl
    go false = refl

-- trace and timers leave the stack as it was
settled_judged : (s : Board) (c : Cpu) (o : Out ConfinedActed) (m : Memory)
    → if_stack_held (holds_stack (board_of (attempt_ended s.cpu c o m)).cpu) s (attempt_ended s.cpu c o m) ≡ after_attempt s c o m
settled_judged s c (ok (carried_out t d)) m =
    ap (λ (l : Bool). if_stack_held l s (attempt_ended s.cpu c (ok (carried_out t d)) m))
    (holds_counted (reg s.cpu config) (not (is_user s.cpu.bank)) true (trace_falls (traces_at (reg c psw) t) d) ∙ holds_traced (traces_at (reg c psw) t) d)
settled_judged s c (ok (fetched n)) m = refl
settled_judged s c (stop e d) m = refl

-- ---- kind 04, the turn: i is the bank after the look, n the number of what is due

module _ (level : ℕ) (b : Bank) (q : Cache) (m : Memory) (i : Bank) (ei : Made b i (λ c. looked level c)) (n : ℕ) (en : n ≡ due_code (due_of level i)) where
  confined_by : confined_turn level (board (cpu b q) m) ≡ confined_for (due_from n) (board (cpu b q) m) (cpu i q)
  unfolding confined_turn
  confined_by =
      ap (λ (c : Cpu). confined_for (due_of level c.bank) (board (cpu b q) m) c) (sym (ei q)) ∙ ap (λ (d : Due). confined_for d (board (cpu b q) m) (cpu i q)) (sym (due_is level i n en))

  ends_by : (n ≡ 0 → ⊥) → confined_for (due_from n) (board (cpu b q) m) (cpu i q) ≡ ends event_due (event_code (event_from n)) (board (cpu i q) m)
  ends_by h = ap (λ (d : Due). confined_for d (board (cpu b q) m) (cpu i q)) (due_event n h)

  pub confined_event : (n ≡ 0 → ⊥) → (v : ℕ) → v ≡ 2 * 2 ^ 32 + n → turned v (board (cpu i q) m) ≡ confined_turn level (board (cpu b q) m)
  confined_event h v ev =
      turned_stop n v (board (cpu i q) m) small ev
      ∙ ap (λ (k : ℕ). ends event_due k (board (cpu i q) m)) (en ∙ ap due_code (sym (due_is level i n en) ∙ due_event n h))
      ∙ sym (confined_by ∙ ends_by h)
    where
      small : n < 2 ^ 32
      small = omega (arith, due_small level i n en)

  -- nothing is due: a and p are bank and cache after the attempt, r its answer
  module _ (en0 : n ≡ 0) (x : Journal) (long : Long m x) (bytes : Bytes m) (r : ℕ) (a : Bank) (p : Cache) (k : Memory) (y : Journal) (x₀ : Journal) (ex : x₀ ≡ set x 0 0)
      (e : response (attempted_out (answer_of r) a p) (journaled k y) ≡ interpret logging (attempt_of true (cpu i q)) (journaled m x₀)) where
    abbrev s : Board
    s = board (cpu b q) m

    confined_as_law : response (confined_out (answer_of r) a p) (journaled k y) ≡ interpret logging (confined_attempt (cpu i q)) (journaled m x₀)
    confined_as_law = confined_attempted (cpu i q) r a p (journaled m x₀) (journaled k y) e

    turn_is : confined_turn level s ≡ after_attempt s (cpu i q) (confined_out (answer_of r) a p) k
    turn_is =
        confined_by
        ∙ ap (λ (j : ℕ). confined_for (due_from j) s (cpu i q)) en0
        ∙ ap (λ (g : Response Memory (Out ConfinedActed)). attempt_turn s (cpu i q) g) (sym (plainly (confined_attempt (cpu i q)) (confined_out (answer_of r) a p) (journaled m x₀) (journaled k y) confined_as_law))

    undone_is : undo y k ≡ m
    undone_is =
        put_back 75 (confined_attempt (cpu i q)) (confined_out (answer_of r) a p) m x k y (confined_bounded (cpu i q)) (omega arith) long bytes x₀ ex confined_as_law

    pub confined_long : length y ≡ 201
    confined_long =
        still_long 75 (confined_attempt (cpu i q)) (confined_out (answer_of r) a p) m x k y (confined_bounded (cpu i q)) (omega arith) long bytes x₀ ex confined_as_law

    -- o and w are bank and cache as they were settled, g how the turn would end
    pub confined_settled : (o : Bank) (w : Cache) (g : ℕ)
        → ((l : Memory) → turned g (board (cpu o w) l) ≡ attempt_ended (cpu b q) (looked level (cpu b q)) (confined_out (answer_of r) a p) l)
        → (t : Turn) → t ≡ if_stack_held (holds_stack (cpu o w)) (board (cpu b q) (undo y k)) (turned g (board (cpu o w) k)) → t ≡ confined_turn level s
    confined_settled o w g h t f =
        f
        ∙ ap (λ (l : Memory). if_stack_held (holds_stack (cpu o w)) (board (cpu b q) l) (turned g (board (cpu o w) k))) undone_is
        ∙ ap (λ (l : Board). if_stack_held (holds_stack l.cpu) s (turned g (board (cpu o w) k))) (sym (turned_board g (board (cpu o w) k)))
        ∙ ap (λ (l : Turn). if_stack_held (holds_stack (board_of l).cpu) s l) (h k)
        ∙ settled_judged s (looked level (cpu b q)) (confined_out (answer_of r) a p) k
        ∙ ap (λ (c : Cpu). after_attempt s c (confined_out (answer_of r) a p) k) (sym (ei q))
        ∙ sym turn_is

-- ---- either kind

-- where the fast way did not go, all is as it was
module _ (confined : Bool) (level : ℕ) (b d : Bank) (q p : Cache) (m n : Memory) (same : (n ≡ m) × (d ≡ b) × (p ≡ q)) (t : Turn) where
  pub takes_confined : confined ≡ true → t ≡ confined_turn level (board (cpu d p) n) → t ≡ turn_of confined level (board (cpu b q) m)
  takes_confined h e = rw (h, ← same.0, ← same.1, ← same.2) e

  pub takes_events : confined ≡ false → t ≡ turn level (board (cpu d p) n) → t ≡ turn_of confined level (board (cpu b q) m)
  takes_events h e = rw (h, ← same.0, ← same.1, ← same.2) e
