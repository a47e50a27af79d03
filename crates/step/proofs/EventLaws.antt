-- The ways out of event sequences, and what is due by its number.
-- Assumes nothing.
use Prim.Native.Nat.{ℕ, ◌-◌, ◌^◌, ◌<◌, ◌≤◌}
use mathlib.Core.Path.{◌≡◌, refl, sym, ap, ◌∙◌}
use mathlib.Core.Bool.{Bool, true, false, cond, not, ◌&&◌}
use native.Mathlib.Omega.{arith}
use lib.Dec.{eqb, ltb, leb}
use borrow.Author.Tests.{ne_eqb}
use Rattle.memory.specs.Answers.{answer_of}
use Rattle.memory.proofs.AnswerLaws.{answer_low, answer_high}
use Rattle.access_spec.specs.Access.{Response, response}
use Rattle.access_spec.specs.Program.{Program, ret, interpret, after}
use Rattle.access_spec.specs.Journal.{Journaled, logging}
use Rattle.access_spec.proofs.InterpretLaws.{interpret_after}
use Rattle.machine.specs.Registers.{Bank, trace_due, timer1_due, timer2_due, nmi_taken}
use Rattle.machine.specs.Cache.{Cache}
use Rattle.machine.specs.Status.{Cpu, cpu}
use Rattle.datapath.specs.Parts.{Out}
use Rattle.datapath.specs.Code.{cpu_out}
use Rattle.exec_spec.specs.EventFrames.{interrupt_sequence, exception_sequence, reset}
use Rattle.step_spec.specs.Events.{Event, interrupt, timer1, timer2, trace, Due, none, due, is_pending, priority, due_of, take, taken_of, vector_of}
use Rattle.step_spec.specs.Step.{stepped, settled, event_step, exception_step, instruction_step, step_for}
use Rattle.step_pending.specs.Dues.{due_code, event_from, due_from, is_trace}
use Rattle.step_pending.proofs.EventLaws.{asked}
use Rattle.step_pending.proofs.Laws.{due_known}
use Rattle.machine.proofs.BankLaws.{Made}

-- ---- what a sequence leaves

module _ (b : Bank) (q : Cache) (x : ℕ) where
  pub settled_reset : 2 ^ 32 ≤ x → (d : Bank) → Made b d reset → cpu d q ≡ settled (cpu_out (answer_of x) b q)
  settled_reset h d e = rw (answer_high x h) (e q)

  pub settled_done : x < 2 ^ 32 → cpu b q ≡ settled (cpu_out (answer_of x) b q)
  settled_done h = rw (answer_low x h) refl

-- d is the bank that it leaves once it is settled
abbrev pub Settled : Bank → ℕ → Bank → Type 0
Settled b x d = (q : Cache) → cpu d q ≡ settled (cpu_out (answer_of x) b q)

pub sequence_settled : (p : Program (Out Cpu)) (x : ℕ) (b d : Bank) (q : Cache) (t u : Journaled) → response (cpu_out (answer_of x) b q) u ≡ interpret logging p t → Settled b x d
    → response (stepped (cpu d q) false) u ≡ interpret logging (after p (λ o. ret (stepped (settled o) false))) t
unfolding interpret
sequence_settled p x b d q t u e ed =
    ap (λ (c : Cpu). response (stepped c false) u) (ed q)
    ∙ ap (λ (g : Response Journaled (Out Cpu)). response (stepped (settled g.out) false) g.world) e
    ∙ sym (interpret_after logging p (λ o. ret (stepped (settled o) false)) t)

module _ (b : Bank) (q : Cache) (e : ℕ) (t : Journaled) where
  pub exception_resets : e ≡ 0 → (d : Bank) → Made b d reset → response (stepped (cpu d q) false) t ≡ interpret logging (exception_step (cpu b q) e) t
  unfolding exception_step interpret
  exception_resets h d f = rw h (ap (λ (c : Cpu). response (stepped c false) t) (f q))

  pub exception_taken : (e ≡ 0 → ⊥) → (x : ℕ) (s d : Bank) (u : Journaled) → response (cpu_out (answer_of x) s q) u ≡ interpret logging (exception_sequence (cpu b q) e) t → Settled s x d
      → response (stepped (cpu d q) false) u ≡ interpret logging (exception_step (cpu b q) e) t
  unfolding exception_step
  exception_taken h x s d u f g = rw (ne_eqb e 0 h) (sequence_settled (exception_sequence (cpu b q) e) x s d q t u f g)

-- ---- what is due

-- s is the bank without what is taken
module _ (b : Bank) (q : Cache) (k : ℕ) (s : Bank) (es : Made b s (λ c. taken_of (event_from k) c)) (t : Journaled) (x : ℕ) (a d : Bank) (u : Journaled) (ed : Settled a x d) where
  pub trace_taken : k ≡ 2 → response (cpu_out (answer_of x) a q) u ≡ interpret logging (exception_sequence (cpu s q) 2) t
      → response (stepped (cpu d q) false) u ≡ interpret logging (event_step (cpu b q) (event_from k)) t
  unfolding event_step take
  trace_taken h e =
      rw h (sequence_settled (exception_sequence (taken_of trace (cpu b q)) 2) x a d q t u (e ∙ ap (λ (c : Cpu). interpret logging (exception_sequence c 2) t) (es q ∙ ap (λ (n : ℕ). taken_of (event_from n) (cpu b q)) h)) ed)

  not_trace : (k ≡ 2 → ⊥) → is_trace (event_from k) ≡ false
  not_trace h = rw (ne_eqb k 2 h) (go (eqb k 0x17) (eqb k 0x18))
    where
      go : (g i : Bool) → is_trace (cond g timer1 (cond i timer2 (interrupt (k - 0x10)))) ≡ false
      go true i = refl
      go false true = refl
      go false false = refl

  taken_as : (n : Event) (c : Cpu) → is_trace n ≡ false → take c n ≡ interrupt_sequence (taken_of n c) (vector_of n)
  unfolding take
  taken_as (interrupt n) c h = refl
  taken_as timer1 c h = refl
  taken_as timer2 c h = refl
  taken_as trace c h = cc

  pub interrupt_taken : (k ≡ 2 → ⊥) → (v : ℕ) → v ≡ vector_of (event_from k) → response (cpu_out (answer_of x) a q) u ≡ interpret logging (interrupt_sequence (cpu s q) v) t
      → response (stepped (cpu d q) false) u ≡ interpret logging (event_step (cpu b q) (event_from k)) t
  unfolding event_step
  interrupt_taken h v ev e =
      sequence_settled (take (cpu b q) (event_from k)) x a d q t u
      (e ∙ ap (λ (c : Cpu). interpret logging (interrupt_sequence c v) t) (es q) ∙ ap (λ (n : ℕ). interpret logging (interrupt_sequence (taken_of (event_from k) (cpu b q)) n) t) ev ∙ ap (λ (p : Program (Out Cpu)). interpret logging p t) (sym (taken_as (event_from k) (cpu b q) (not_trace h))))
      ed

-- ---- the number of what is due says what it is

due_below : (level : ℕ) (b : Bank) → due_code (due_of level b) < 32
due_below level b =
    go (eqb level 0 && not (is_pending b nmi_taken)) (eqb level 1 && ltb 1 (priority b)) (is_pending b timer1_due && ltb 1 (priority b)) (is_pending b timer2_due && ltb 1 (priority b)) (leb 2 level && leb level 6 && ltb level (priority b)) (is_pending b trace_due) (asked level (priority b))
  where
    go : (f g h i j k : Bool) → (j ≡ true → level ≤ 6) → due_code (cond f (due (interrupt 0)) (cond g (due (interrupt 1)) (cond h (due timer1) (cond i (due timer2) (cond j (due (interrupt level)) (cond k (due trace) none)))))) < 32
    go true g h i j k l = omega arith
    go false true h i j k l = omega arith
    go false false true i j k l = omega arith
    go false false false true j k l = omega arith
    go false false false false true k l = let low : level ≤ 6 = l refl in omega (arith, low)
    go false false false false false true l = omega arith
    go false false false false false false l = omega arith

module _ (level : ℕ) (b : Bank) (k : ℕ) (e : k ≡ due_code (due_of level b)) where
  pub due_is : due_from k ≡ due_of level b
  due_is = ap (λ (n : ℕ). due_from n) e ∙ due_known level b

  pub due_small : k < 32
  due_small = rw e (due_below level b)

pub due_event : (k : ℕ) → (k ≡ 0 → ⊥) → due_from k ≡ due (event_from k)
due_event k h = rw (ne_eqb k 0 h) refl

module _ (c : Cpu) (k : ℕ) where
  pub nothing_due_law : k ≡ 0 → step_for (due_from k) c ≡ instruction_step c
  nothing_due_law h = rw h

  pub something_due : (k ≡ 0 → ⊥) → step_for (due_from k) c ≡ event_step c (event_from k)
  something_due h = ap (λ (d : Due). step_for d c) (due_event k h)
