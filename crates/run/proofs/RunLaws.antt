-- The loop of a run, its refusals, and the machine that it leaves.
-- Assumes nothing.
use Prim.Native.Nat.{ℕ, zero, suc, ◌+◌, ◌-◌, ◌/◌, ◌%◌, ◌^◌, ◌<◌, ◌≤◌}
use mathlib.Core.Path.{◌≡◌, refl, sym, ap, ◌∙◌}
use mathlib.Core.Bool.{Bool, true, false, not, ◌&&◌}
use native.Mathlib.Omega.{arith}
use lib.ListN.{length, length-append}
use borrow.Author.Tests.{ne_eqb, le-leb, lt-leb, eqb-true}
use Rattle.word.proofs.CaseLaws.{and_left}
use Rattle.memory.specs.Bytes.{Memory, whole_pages}
use Rattle.access_spec.specs.Program.{interpret, plain}
use Rattle.access_spec.proofs.BoundedLaws.{bounded_result, Any}
use Rattle.machine.specs.declared.Machine.{Machine}
use Rattle.machine.specs.Registers.{Bank, good_bank}
use Rattle.machine.specs.Cache.{Cache, quads_of}
use Rattle.machine.specs.Status.{Cpu, cpu, is_user, is_virtual}
use Rattle.machine.specs.Record.{dues, bank_of, cpu_of, machine_of}
use Rattle.machine.proofs.RecordLaws.{bank_shape, cpu_machine}
use Rattle.machine.proofs.FlatLaws.{shape_quads}
use Rattle.datapath.specs.Parts.{Out, ok, stop}
use Rattle.step_spec.specs.Events.{Due, none, due, due_of, looked}
use Rattle.step_spec.specs.Step.{traces_at, trace_falls, stepped, step, holds_stack}
use Rattle.run_spec.specs.Run.{Board, board, Turn, goes, ends, if_stack_held, turn, ConfinedActed, carried_out, fetched, confined_attempt, after_attempt, confined_for, confined_turn, turn_of, RunResult, run_result, going, advance, refusal, unless_refused, run}
use Rattle.invariants.proofs.StepLaws.{Leaves}
use Rattle.invariants.proofs.ShapeLaws.{Shaped, step_shaped, confined_shaped, looked_shaped, trace_shaped, timed_shaped}
use Rattle.run.specs.Code.{turned, run_result_of}

-- ---- the loop: what is left gives what the whole gives

pub record Going (t : Board → Turn) (budget : ℕ) (s₀ : Board) (n : ℕ) (s : Board) : Type 0 where
  pub upto : n ≤ budget
  pub long : length s.memory ≡ length s₀.memory
  pub rest : advance t n (budget - n) s ≡ advance t 0 budget s₀

pub going_begun : (t : Board → Turn) (budget : ℕ) (s : Board) → Going t budget s 0 s
going_begun t budget s = record { upto = omega arith; long = refl; rest = ap (λ (k : ℕ). advance t 0 k s) all }
  where
    all : budget - 0 ≡ budget
    all = omega arith

module _ (t : Board → Turn) (budget : ℕ) (s₀ : Board) (n : ℕ) (s : Board) (g : Going t budget s₀ n s) where
  module _ (h : n < budget) (x : ℕ) (u : Board) (e : turned x u ≡ t s) where
    -- one turn more
    once : (o : RunResult) → (k : ℕ) → budget - n ≡ suc k → advance t n (suc k) s ≡ o → o ≡ advance t 0 budget s₀
    once o k f i = sym i ∙ ap (λ (j : ℕ). advance t n j s) (sym f) ∙ g.rest

    pub going_more : x ≡ 0 → length u.memory ≡ length s.memory → Going t budget s₀ (n + 1) u
    unfolding advance
    going_more f l = record { upto = omega arith; long = l ∙ g.long; rest = more }
      where
        left : budget - n ≡ suc (budget - (n + 1))
        left = omega arith

        next : n + 1 ≡ suc n
        next = omega arith

        goes_on : t s ≡ goes u
        goes_on = sym e ∙ rw f refl

        more : advance t (n + 1) (budget - (n + 1)) u ≡ advance t 0 budget s₀
        more = ap (λ (j : ℕ). advance t j (budget - (n + 1)) u) next ∙ once _ (budget - (n + 1)) left (rw goes_on refl)

    pub going_stopped : (x ≡ 0 → ⊥) → run_result n (x / 2 ^ 32) (x % 2 ^ 32) u ≡ advance t 0 budget s₀
    unfolding advance
    going_stopped f = once _ (budget - (n + 1)) left (rw ends_now refl)
      where
        left : budget - n ≡ suc (budget - (n + 1))
        left = omega arith

        ends_now : t s ≡ ends (x / 2 ^ 32) (x % 2 ^ 32) u
        ends_now = sym e ∙ simp (ne_eqb x 0 f)

  pub going_end : budget ≤ n → run_result n 0 0 s ≡ advance t 0 budget s₀
  unfolding advance
  going_end h = sym (ap (λ (j : ℕ). advance t n j s) none_left) ∙ g.rest
    where
      none_left : budget - n ≡ 0
      none_left = omega (arith, g.upto)

-- ---- refusals

module _ (confined : Bool) (level : ℕ) (b : Bank) (q : Cache) (m : Memory) (w : Bool) (ew : w ≡ whole_pages (length m)) where
  pub refuses_board : not w ≡ true → 1 ≡ refusal confined level (board (cpu b q) m)
  unfolding refusal
  refuses_board h = rw (sym ew, h) refl

  module _ (fw : not w ≡ false) (g : Bool) (eg : g ≡ good_bank b) where
    pub refuses_register : not g ≡ true → 2 ≡ refusal confined level (board (cpu b q) m)
    unfolding refusal
    refuses_register h = rw (sym ew, fw, sym eg, h) refl

    module _ (fg : not g ≡ false) where
      pub refuses_level : 7 < level → 3 ≡ refusal confined level (board (cpu b q) m)
      unfolding refusal
      refuses_level h = rw (sym ew, fw, sym eg, fg, lt-leb level 7 h) refl

      module _ (h : level ≤ 7) (u v : Bool) (eu : u ≡ is_user b) (ev : v ≡ is_virtual b) where
        pub refuses_confined : (confined && not (u && v)) ≡ true → 9 ≡ refusal confined level (board (cpu b q) m)
        unfolding refusal
        refuses_confined f = rw (sym ew, fw, sym eg, fg, le-leb level 7 h, sym eu, sym ev, f) refl

        pub refuses_nothing : (confined && not (u && v)) ≡ false → 0 ≡ refusal confined level (board (cpu b q) m)
        unfolding refusal
        refuses_nothing f = rw (sym ew, fw, sym eg, fg, le-leb level 7 h, sym eu, sym ev, f) refl

-- ---- a run keeps the shape of the machine

abbrev Shapes : Turn → Type 0
Shapes (goes s) = Shaped s.cpu
Shapes (ends r k s) = Shaped s.cpu

lost_shapes : (b : Bool) (s : Board) (t : Turn) → Shaped s.cpu → Shapes t → Shapes (if_stack_held b s t)
lost_shapes true s t h f = f
lost_shapes false s t h f = h

turn_shapes : (level : ℕ) (s : Board) → Shaped s.cpu → Shapes (turn level s)
unfolding turn
turn_shapes level s h =
    lost_shapes (holds_stack (interpret plain (step level s.cpu) s.memory).out.cpu) s _ h
    (timed_shaped s.cpu (interpret plain (step level s.cpu) s.memory).out
    (bounded_result plain Any (λ x. Shaped x.cpu) 79 (step level s.cpu) s.memory (step_shaped level s.cpu h)))

try_shapes : (s : Board) (c : Cpu) (o : Out ConfinedActed) (m : Memory) → Shaped s.cpu → Shaped c → Leaves Shaped o → Shapes (after_attempt s c o m)
try_shapes s c (ok (carried_out t d)) m h k l =
    lost_shapes (holds_stack d) s _ h (timed_shaped s.cpu (stepped (trace_falls (traces_at _ t) d) true) (trace_shaped (traces_at _ t) d l))
try_shapes s c (ok (fetched n)) m h k l = lost_shapes (holds_stack c) s _ h k
try_shapes s c (stop e d) m h k l = lost_shapes (holds_stack d) s _ h l

confined_shapes : (level : ℕ) (s : Board) → Shaped s.cpu → Shapes (confined_turn level s)
unfolding confined_turn
confined_shapes level s h = go (due_of level (looked level s.cpu).bank)
  where
    c : Cpu
    c = looked level s.cpu

    k : Shaped c
    k = looked_shaped level s.cpu h

    go : (d : Due) → Shapes (confined_for d s c)
    go none =
        try_shapes s c (interpret plain (confined_attempt c) s.memory).out (interpret plain (confined_attempt c) s.memory).world h k
        (bounded_result plain Any (Leaves Shaped) 75 (confined_attempt c) s.memory (confined_shaped c k))
    go (due e) = k

one_shapes : (confined : Bool) (level : ℕ) (s : Board) → Shaped s.cpu → Shapes (turn_of confined level s)
one_shapes true level s h = confined_shapes level s h
one_shapes false level s h = turn_shapes level s h

advance_shaped : (confined : Bool) (level n budget : ℕ) (s : Board) → Shaped s.cpu → Shaped (advance (turn_of confined level) n budget s).left.cpu
unfolding advance
advance_shaped confined level n zero s h = h
advance_shaped confined level n (suc budget) s h =
    go (turn_of confined level s) (one_shapes confined level s h) (λ u f. advance_shaped confined level (suc n) budget u f)
  where
    go : (t : Turn) → Shapes t → ((u : Board) → Shaped u.cpu → Shaped (advance (turn_of confined level) (suc n) budget u).left.cpu)
        → Shaped (going n (λ u. advance (turn_of confined level) (suc n) budget u) t).left.cpu
    go (goes u) f k = k u f
    go (ends r c u) f k = f

-- ---- the run

module _ (confined : Bool) (budget level : ℕ) (s : Board) (e : ℕ) (ee : e ≡ refusal confined level s) where
  pub run_refused : (e ≡ 0 → ⊥) → run_result 0 1 e s ≡ run confined budget level s
  unfolding run
  run_refused h = rw (← ee) (go e h)
    where
      go : (k : ℕ) → (k ≡ 0 → ⊥) → run_result 0 1 k s ≡ unless_refused k (advance (turn_of confined level) 0 budget s) s
      go zero f = absurd (f refl)
      go (suc k) f = refl

  pub run_advanced : e ≡ 0 → (x : RunResult) → x ≡ advance (turn_of confined level) 0 budget s → x ≡ run confined budget level s
  unfolding run
  run_advanced h x f = rw (sym ee ∙ h) f

  -- no budget
  pub run_none : e ≡ 0 → budget ≡ 0 → run_result 0 0 0 s ≡ run confined budget level s
  unfolding advance
  run_none h f = run_advanced h (run_result 0 0 0 s) (rw f refl)

run_shaped : (confined : Bool) (budget level : ℕ) (s : Board) → Shaped s.cpu → Shaped (run confined budget level s).left.cpu
unfolding run
run_shaped confined budget level s h = go (refusal confined level s)
  where
    go : (e : ℕ) → Shaped (unless_refused e (advance (turn_of confined level) 0 budget s) s).left.cpu
    go zero = advance_shaped confined level 0 budget s h
    go (suc e) = h

-- a machine by value, in the bank b and the quad-words q; a, p and l are what the run left
pub run_machine : (confined : Bool) (budget level : ℕ) (begun : Machine) (m : Memory) (b : Bank) (q : Cache) → b ≡ bank_of begun → length b ≡ 17 → q ≡ quads_of begun.cache
    → (n r k : ℕ) (a : Bank) (p : Cache) (l : Memory)
    → run_result n r k (board (cpu a p) l) ≡ run confined budget level (board (cpu b q) m)
    → (d : Machine) → d ≡ machine_of a p
    → run_result_of (record { machine = d; steps = n; stop = r; code = k }) l ≡ run confined budget level (board (cpu_of begun) m)
run_machine confined budget level begun m b q eb long eq n r k a p l f d ed =
    ap (λ (c : Cpu). run_result n r k (board c l)) (ap (λ (x : Machine). cpu_of x) ed ∙ cpu_machine a p held.bank held.cache)
    ∙ f
    ∙ (λ i. run confined budget level (board (cpu (eb i) (eq i)) m))
  where
    thirteen : length begun.registers ≡ 13
    thirteen = let g : length begun.registers + 4 ≡ 17 = sym (length-append begun.registers (dues begun)) ∙ ap (λ (x : Bank). length x) (sym eb) ∙ long in omega arith

    begun_shaped : Shaped (cpu b q)
    begun_shaped = rw (eb, eq) (record { bank = bank_shape begun thirteen; cache = shape_quads begun.cache })

    held : Shaped (cpu a p)
    held = rw (ap (λ (x : RunResult). x.left.cpu) f) (run_shaped confined budget level (board (cpu b q) m) begun_shaped)

-- whole pages are whole words
pub words_whole : (confined : Bool) (level : ℕ) (s : Board) (e : ℕ) → e ≡ refusal confined level s → e ≡ 0 → length s.memory % 4 ≡ 0
unfolding refusal
words_whole confined level s e ee h = go (whole_pages (length s.memory)) refl (sym ee ∙ h)
  where
    divides : length s.memory % 4096 ≡ 0 → length s.memory % 4 ≡ 0
    divides f = omega arith

    go : (w : Bool) → whole_pages (length s.memory) ≡ w → refusal confined level s ≡ 0 → length s.memory % 4 ≡ 0
    go true f i = divides (eqb-true (length s.memory % 4096) 0 (and_left _ _ (and_left _ _ f)))
    go false f i = absurd (never (sym (rw f refl) ∙ i))
      where
        never : ◌≡◌ {A = ℕ} 1 0 → ⊥
        never z = omega arith
