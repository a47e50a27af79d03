-- Every run stops with a code that is on the list of its kind.
-- Assumes nothing.
use Prim.Native.Nat.{ℕ, zero, suc, ◌≤◌}
use mathlib.Core.Path.{◌≡◌, refl, sym, ap, subst, ◌∙◌}
use mathlib.Core.Bool.{Bool, true, false, cond, not, ◌&&◌, false≢true}
use mathlib.Core.List.{List, [], ◌∷◌, ◌++◌}
use native.Mathlib.Omega.{arith}
use borrow.Author.Tests.{eqb-true, leb-true}
use lib.ListN.{length}
use lib.Dec.{eqb, ltb, leb}
use Rattle.word.specs.Lists.{contains}
use Rattle.word.proofs.CaseLaws.{either}
use Rattle.word.proofs.ListLaws.{contains_left, contains_right}
use Rattle.memory.specs.Exceptions.{unimplemented_register}
use Rattle.memory.specs.Bytes.{Memory, whole_pages, memory_size}
use Rattle.mmu.specs.declared.Regime.{Regime}
use Rattle.access_spec.specs.Program.{interpret, plain}
use Rattle.machine.specs.Registers.{Bank, psw, nmi_taken, timer1_due, timer2_due, trace_due, good_bank, register_refused}
use Rattle.machine.specs.Status.{Cpu, reg, is_user, is_virtual, regime}
use Rattle.datapath.specs.Parts.{Out, ok, stop}
use Rattle.step_spec.specs.Events.{interrupt, timer1, timer2, trace, Due, none, due, priority, is_pending, due_of, looked, event_code}
use Rattle.step_spec.specs.Step.{step, traces_at, holds_stack}
use Rattle.run_spec.specs.Run.{Board, board, Turn, goes, ends, budget_spent, refused, event_due, if_stack_held, turn, ConfinedActed, carried_out, fetched, confined_attempt, after_attempt, confined_for, confined_turn, RunResult, going, advance, level_refused, level_not_user, refusal, turn_of, unless_refused, run}
use Rattle.invariants.specs.StopCodes.{refusal_codes, confined_exceptions, interrupt_codes, fetched_codes, event_codes, codes_at, confined_code, RunCodes, RunStops, StopCodes}
use Rattle.invariants.proofs.RuleLaws.{ConfinedException}
use Rattle.invariants.proofs.StepLaws.{EndsIn}
use Rattle.invariants.proofs.LevelLaws.{user_ends, looked_kept, timed_kept}
use Rattle.invariants.proofs.MemoryLaws.{plain_raises}

-- ---- a stop with its codes, by cases

pub by_stop : (P : ℕ → List ℕ → Type 0) (confined : Bool) → P budget_spent (0 ∷ []) → P refused (refusal_codes confined) → P event_due (event_codes confined)
    → ((r : ℕ) → P r []) → (reason : ℕ) → P reason (codes_at confined reason)
by_stop P confined spent refusals events others reason =
    go (eqb reason budget_spent) (eqb reason refused) (eqb reason event_due) (eqb-true reason budget_spent) (eqb-true reason refused) (eqb-true reason event_due)
  where
    at : (n : ℕ) (l : List ℕ) → P n l → reason ≡ n → P reason l
    at n l p e = subst (λ r. P r l) (sym e) p

    go : (x y z : Bool) → (x ≡ true → reason ≡ budget_spent) → (y ≡ true → reason ≡ refused) → (z ≡ true → reason ≡ event_due)
        → P reason (cond x (0 ∷ []) (cond y (refusal_codes confined) (cond z (event_codes confined) [])))
    go true y z e f g = at budget_spent (0 ∷ []) spent (e refl)
    go false true z e f g = at refused (refusal_codes confined) refusals (f refl)
    go false false true e f g = at event_due (event_codes confined) events (g refl)
    go false false false e f g = others reason

-- frame 04's list has all of frame 03's
pub on_confined_list : (confined : Bool) (code reason : ℕ) → contains (codes_at confined reason) code ≡ true → confined_code reason code ≡ true
on_confined_list true code reason h = h
on_confined_list false code reason h =
    by_stop (λ r l. contains l code ≡ true → confined_code r code ≡ true) false (λ k. k) (λ k. contains_left code (refusal_codes false) (level_not_user ∷ []) k)
    (λ k. absurd (false≢true k)) (λ r k. absurd (false≢true k)) reason h

-- ---- what is due

abbrev DueListed : Due → Type 0
DueListed none = Unit
DueListed (due e) = contains (event_codes true) (event_code e) ≡ true

interrupt_listed : (n : ℕ) → n ≤ 6 → DueListed (due (interrupt n))
interrupt_listed zero h = refl
interrupt_listed (suc zero) h = refl
interrupt_listed (suc (suc zero)) h = refl
interrupt_listed (suc (suc (suc zero))) h = refl
interrupt_listed (suc (suc (suc (suc zero)))) h = refl
interrupt_listed (suc (suc (suc (suc (suc zero))))) h = refl
interrupt_listed (suc (suc (suc (suc (suc (suc zero)))))) h = refl
interrupt_listed (suc (suc (suc (suc (suc (suc (suc n))))))) h = absurd (omega arith)

due_listed : (level : ℕ) (b : Bank) → DueListed (due_of level b)
due_listed level b =
    either DueListed (eqb level 0 && not (is_pending b nmi_taken)) (due (interrupt 0)) _ refl
    (either DueListed (eqb level 1 && ltb 1 (priority b)) (due (interrupt 1)) _ refl
    (either DueListed (is_pending b timer1_due && ltb 1 (priority b)) (due timer1) _ refl
    (either DueListed (is_pending b timer2_due && ltb 1 (priority b)) (due timer2) _ refl
    (external (leb 2 level) (leb level 6) (leb-true level 6) _
    (either DueListed (is_pending b trace_due) (due trace) none refl tt)))))
  where
    external : (x y : Bool) → (y ≡ true → level ≤ 6) → (d : Due) → DueListed d
        → DueListed (cond (x && y && ltb level (priority b)) (due (interrupt level)) d)
    external true true f d h = either DueListed (ltb level (priority b)) (due (interrupt level)) d (interrupt_listed level (f refl)) h
    external true false f d h = h
    external false y f d h = h

-- ---- turns: each goes on from a board in I to one in I, or ends by a listed code

module _ (confined : Bool) (I : Board → Type 0) where
  abbrev TurnListed : Turn → Type 0
  TurnListed (goes s) = I s
  TurnListed (ends reason code s) = contains (codes_at confined reason) code ≡ true

  abbrev ResultListed : RunResult → Type 0
  ResultListed e = contains (codes_at confined e.stop) e.code ≡ true

  -- refusal 4 is on both lists
  held_listed : (held : Bool) (s : Board) (t : Turn) → TurnListed t → TurnListed (if_stack_held held s t)
  held_listed true s t h = h
  held_listed false s t h = refl

  advance_listed : (t : Board → Turn) → ((s : Board) → I s → TurnListed (t s)) → (n budget : ℕ) (s : Board) → I s → ResultListed (advance t n budget s)
  unfolding advance
  advance_listed t f n zero s i = refl
  advance_listed t f n (suc budget) s i = go (λ u h. advance_listed t f (suc n) budget u h) (t s) (f s i)
    where
      go : ((u : Board) → I u → ResultListed (advance t (suc n) budget u)) → (u : Turn) → TurnListed u → ResultListed (going n (λ s. advance t (suc n) budget s) u)
      go g (goes u) h = g u h
      go g (ends reason code u) h = h

-- ---- frame 03: a turn ends by refusal 4 alone

abbrev AnyBoard : Board → Type 0
AnyBoard s = Unit

taken_listed : (level : ℕ) (s : Board) → TurnListed false AnyBoard (turn level s)
unfolding turn
taken_listed level s = held_listed false AnyBoard (holds_stack (interpret plain (step level s.cpu) s.memory).out.cpu) s _ tt

-- ---- frame 04: a turn at user level leaves the level as it is

abbrev AtUser : Board → Type 0
AtUser s = is_user s.cpu.bank ≡ true

module _ (s : Board) (c : Cpu) (u : is_user c.bank ≡ true) where
  attempt_listed : (o : Out ConfinedActed) → EndsIn ConfinedException (λ d. regime d.bank ≡ regime c.bank) o → (m : Memory)
      → TurnListed true AtUser (after_attempt s c o m)
  attempt_listed (ok (carried_out t d)) h m =
      held_listed true AtUser (holds_stack d) s _ (ap (λ (r : Regime). r.user) (timed_kept c u s.cpu d (traces_at (reg c psw) t) true h) ∙ u)
  attempt_listed (ok (fetched code)) h m =
      held_listed true AtUser (holds_stack c) s (ends event_due code (board c m))
      (contains_right code confined_exceptions (interrupt_codes ++ fetched_codes) (contains_right code interrupt_codes fetched_codes h))
  attempt_listed (stop e d) h m =
      held_listed true AtUser (holds_stack d) s (ends event_due e (board d m)) (contains_left e confined_exceptions (interrupt_codes ++ fetched_codes) h.0)

  for_listed : (d : Due) → DueListed d → TurnListed true AtUser (confined_for d s c)
  for_listed none h =
      let g = interpret plain (confined_attempt c) s.memory in
      attempt_listed g.out (user_ends c u plain plain_raises s.memory) g.world
  for_listed (due e) h = h

confined_listed : (level : ℕ) (s : Board) → AtUser s → TurnListed true AtUser (confined_turn level s)
unfolding confined_turn
confined_listed level s u =
    for_listed s (looked level s.cpu) (ap (λ (r : Regime). r.user) (looked_kept s.cpu u level) ∙ u)
    (due_of level (looked level s.cpu).bank) (due_listed level (looked level s.cpu).bank)

-- ---- a run: refused, or at user level if it is confined

abbrev RefusalListed : Bool → Board → ℕ → Type 0
RefusalListed confined s zero = confined ≡ true → AtUser s
RefusalListed confined s (suc r) = contains (refusal_codes confined) (suc r) ≡ true

refusal_listed : (confined : Bool) (level : ℕ) (s : Board) → RefusalListed confined s (refusal confined level s)
unfolding refusal
refusal_listed confined level s =
    either (RefusalListed confined s) (not (whole_pages (length s.memory))) memory_size _ refl
    (either (RefusalListed confined s) (not (good_bank s.cpu.bank)) register_refused _ refl
    (either (RefusalListed confined s) (not (leb level 7)) level_refused _ refl
    (last confined (is_user s.cpu.bank) (is_virtual s.cpu.bank) (λ e. e))))
  where
    last : (confined x y : Bool) → (x ≡ true → AtUser s) → RefusalListed confined s (cond (confined && not (x && y)) level_not_user 0)
    last false x y f = λ e. absurd (false≢true e)
    last true true true f = λ _. f refl
    last true true false f = refl
    last true false y f = refl

pub run_listed : (confined : Bool) (budget level : ℕ) (s : Board)
    → contains (codes_at confined (run confined budget level s).stop) (run confined budget level s).code ≡ true
unfolding run
run_listed confined budget level s = go confined (refusal confined level s) (refusal_listed confined level s)
  where
    go : (confined : Bool) (r : ℕ) → RefusalListed confined s r → ResultListed confined AnyBoard (unless_refused r (advance (turn_of confined level) 0 budget s) s)
    go false zero h = advance_listed false AnyBoard (turn_of false level) (λ t _. taken_listed level t) 0 budget s tt
    go true zero h = advance_listed true AtUser (turn_of true level) (λ t u. confined_listed level t u) 0 budget s (h refl)
    go confined (suc r) h = h

-- ---- so neither 06 nor an event without a code comes from whoever answers by the list, as the definition does

register_unlisted : (confined : Bool) (reason : ℕ) → contains (codes_at confined reason) unimplemented_register ≡ true → ⊥
register_unlisted confined = by_stop unlisted confined false≢true (refusals confined) (events confined) (λ r. false≢true)
  where
    unlisted : ℕ → List ℕ → Type 0
    unlisted r l = contains l unimplemented_register ≡ true → ⊥

    refusals : (confined : Bool) → contains (refusal_codes confined) unimplemented_register ≡ true → ⊥
    refusals true = false≢true
    refusals false = false≢true

    events : (confined : Bool) → contains (event_codes confined) unimplemented_register ≡ true → ⊥
    events true = false≢true
    events false = false≢true

zero_unlisted : (confined : Bool) → contains (event_codes confined) 0 ≡ true → ⊥
zero_unlisted true = false≢true
zero_unlisted false = false≢true

pub listed_codes : (confined : Bool) (Stops : ℕ → ℕ → Type 0)
    → ((reason code : ℕ) → Stops reason code → contains (codes_at confined reason) code ≡ true) → RunCodes confined Stops
listed_codes confined Stops f =
    record {
      listed = f;
      no_unimplemented_register = λ reason a. register_unlisted confined reason (f reason unimplemented_register a);
      no_event_without_code = λ a. zero_unlisted confined (f event_due 0 a);
    }

pub answers_codes : (confined : Bool) (Stops : ℕ → ℕ → Type 0) → ((reason code : ℕ) → Stops reason code → RunStops confined reason code)
    → RunCodes confined Stops
answers_codes confined Stops f = listed_codes confined Stops (λ reason code a. on_list reason code (f reason code a))
  where
    on_list : (reason code : ℕ) → RunStops confined reason code → contains (codes_at confined reason) code ≡ true
    on_list reason code r = rw (← r.stop_is, ← r.code_is) (run_listed confined r.budget r.level r.start)

pub stop_codes : StopCodes
stop_codes confined = answers_codes confined (RunStops confined) (λ reason code r. r)
