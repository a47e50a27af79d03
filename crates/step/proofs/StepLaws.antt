-- The ways out of the step.
-- Assumes nothing.
use Prim.Native.Nat.{ℕ, ◌%◌, ◌^◌, ◌<◌, ◌≤◌}
use mathlib.Core.Path.{◌≡◌, sym, ap, ◌∙◌}
use mathlib.Core.Bool.{Bool, true, false}
use native.Mathlib.Omega.{arith}
use borrow.Author.Tests.{lt-ltb, le-ltb}
use Rattle.word.specs.Fields.{bit_of}
use Rattle.memory.specs.Answers.{answer_of}
use Rattle.memory.proofs.AnswerLaws.{answer_high, answer_got}
use Rattle.access_spec.specs.Access.{Response, response}
use Rattle.access_spec.specs.Program.{Program, interpret}
use Rattle.access_spec.specs.Journal.{Journaled, logging}
use Rattle.access_spec.proofs.InterpretLaws.{interpret_after}
use Rattle.machine.specs.Registers.{Bank, word, psw}
use Rattle.machine.specs.Cache.{Cache}
use Rattle.machine.specs.Status.{Cpu, cpu}
use Rattle.datapath.specs.Parts.{Out}
use Rattle.step_pending.specs.Traces.{traced_from}
use Rattle.step_spec.specs.Events.{Due, due_of, looked}
use Rattle.step_spec.specs.Step.{Acted, attempt, traces_at, trace_falls, Stepped, stepped, exception_step, event_step, finish, instruction_step, step_for, step}
use Rattle.step_pending.specs.Dues.{due_code, event_from, due_from}
use Rattle.machine.proofs.BankLaws.{Made}
use Rattle.exec.specs.Code.{attempt_of, attempted_out, acted_out}
use Rattle.exec.proofs.AttemptLaws.{events_attempted}
use Rattle.step.proofs.EventLaws.{due_is, due_small, nothing_due_law, something_due}

-- ---- after an attempt: d is the bank that is left

module _ (b : Bank) (q : Cache) (p x : ℕ) (t : Journaled) where
  pub finish_exception : 2 ^ 32 ≤ x → (n : ℕ) → n ≡ x % 2 ^ 32 → (d : Bank) (u : Journaled) → response (stepped (cpu d q) false) u ≡ interpret logging (exception_step (cpu b q) n) t
      → response (stepped (cpu d q) false) u ≡ interpret logging (finish p (acted_out (answer_of x) b q)) t
  unfolding finish
  finish_exception h n en d u e = rw (answer_high x h, sym en) e

  pub finish_instruction : x < 3 → (n : ℕ) → n ≡ x % 2 ^ 32 → (z : Bool) → z ≡ traces_at p (traced_from n) → (d : Bank) → Made b d (λ c. trace_falls z c)
      → response (stepped (cpu d q) true) t ≡ interpret logging (finish p (acted_out (answer_of x) b q)) t
  unfolding finish interpret
  finish_instruction h n en z ez d ed =
      let l : x < 2 ^ 32 = omega arith in
      let f : x % 2 ^ 32 ≡ x = omega arith in
      rw (answer_got x l, lt-ltb x 3 h, sym (en ∙ f), sym ez) (ap (λ (c : Cpu). response (stepped c true) t) (ed q))

  pub finish_sequence : x < 2 ^ 32 → 3 ≤ x → (z : Bool) → z ≡ bit_of p 7 → (d : Bank) → Made b d (λ c. trace_falls z c)
      → response (stepped (cpu d q) false) t ≡ interpret logging (finish p (acted_out (answer_of x) b q)) t
  unfolding finish interpret
  finish_sequence l h z ez d ed = rw (answer_got x l, le-ltb x 3 h, sym ez) (ap (λ (c : Cpu). response (stepped c false) t) (ed q))

-- ---- the instruction at PC: s and a are bank and cache after the attempt

pub instruction_stepped : (b : Bank) (q : Cache) (x : ℕ) (s : Bank) (a : Cache) (t u : Journaled) → response (attempted_out (answer_of x) s a) u ≡ interpret logging (attempt_of false (cpu b q)) t
    → (g : Response Journaled Stepped) → g ≡ interpret logging (finish (word b psw) (acted_out (answer_of x) s a)) u → g ≡ interpret logging (instruction_step (cpu b q)) t
unfolding instruction_step
instruction_stepped b q x s a t u e g f =
    f
    ∙ ap (λ (k : Response Journaled (Out Acted)). interpret logging (finish (word b psw) k.out) k.world) (events_attempted (cpu b q) x s a t u e)
    ∙ sym (interpret_after logging (attempt (cpu b q)) (finish (word b psw)) t)

-- ---- the step: s is the bank after the look, k the number of what is due

module _ (level : ℕ) (b : Bank) (q : Cache) (s : Bank) (es : Made b s (λ c. looked level c)) (k : ℕ) (ek : k ≡ due_code (due_of level s)) (t : Journaled) (g : Response Journaled Stepped) where
  -- the step by the number of what is due
  step_by : interpret logging (step level (cpu b q)) t ≡ interpret logging (step_for (due_from k) (cpu s q)) t
  unfolding step
  step_by =
      ap (λ (c : Cpu). interpret logging (step_for (due_of level c.bank) c) t) (sym (es q)) ∙ ap (λ (d : Due). interpret logging (step_for d (cpu s q)) t) (sym (due_is level s k ek))

  pub steps_instruction : k ≡ 0 → g ≡ interpret logging (instruction_step (cpu s q)) t → g ≡ interpret logging (step level (cpu b q)) t
  steps_instruction h e = e ∙ ap (λ (p : Program Stepped). interpret logging p t) (sym (nothing_due_law (cpu s q) k h)) ∙ sym step_by

  pub steps_event : (k ≡ 0 → ⊥) → g ≡ interpret logging (event_step (cpu s q) (event_from (k % 32))) t → g ≡ interpret logging (step level (cpu b q)) t
  steps_event h e =
      e ∙ ap (λ (n : ℕ). interpret logging (event_step (cpu s q) (event_from n)) t) small ∙ ap (λ (p : Program Stepped). interpret logging p t) (sym (something_due (cpu s q) k h)) ∙ sym step_by
    where
      small : k % 32 ≡ k
      small = omega (arith, due_small level s k ek)
