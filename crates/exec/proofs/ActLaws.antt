-- The ways out of what the decoder answered.
-- Assumes nothing.
use Prim.Native.Nat.{ℕ, ◌^◌, ◌<◌, ◌≤◌}
use mathlib.Core.Path.{◌≡◌, refl, sym, ap, ◌∙◌}
use mathlib.Core.Bool.{Bool, true, false, ◌&&◌}
use native.Mathlib.Omega.{arith}
use borrow.Author.Tests.{lt-ltb, ne_eqb}
use Rattle.isa.specs.declared.MonadicMode.{MonadicMode}
use Rattle.isa.specs.declared.Instruction.{Instruction}
use Rattle.word.proofs.CaseLaws.{and_left, and_right}
use Rattle.memory.specs.Answers.{answer_of}
use Rattle.memory.proofs.AnswerLaws.{answer_high, answer_got}
use Rattle.access_spec.specs.Access.{Response, response}
use Rattle.access_spec.specs.Program.{Program, interpret, after}
use Rattle.access_spec.specs.Journal.{Journaled, logging}
use Rattle.machine.specs.Registers.{Bank}
use Rattle.machine.specs.Cache.{Cache}
use Rattle.machine.specs.Status.{Cpu, cpu}
use Rattle.datapath.specs.Parts.{Out, ok, stop, onward, done, ◌>>=◌}
use Rattle.datapath.specs.Code.{cpu_out}
use Rattle.datapath.proofs.BindLaws.{bind}
use Rattle.exec_spec.specs.declared.Monadic.{Monadic}
use Rattle.exec_spec.specs.EventFrames.{unimplemented_sequence}
use Rattle.exec_spec.specs.Execute.{one_operand, normal, Traced, traced, execute}
use Rattle.exec_rows.specs.declared.Action.{Action}
use Rattle.exec_rows.specs.declared.Action.TheVariants.{One}
use Rattle.exec_rows.specs.Rows.{action_of}
use Rattle.step_pending.specs.Traces.{traced_from}
use Rattle.step_spec.specs.Step.{to_instruction, to_vector, finished, sequenced, act}
use Rattle.run_spec.specs.Run.{carried_out, is_kcall, act_confined}
use Rattle.exec.specs.Code.{Attempted, acted, of_confined, act_of, attempted_out}

-- ---- a part whose value is only renamed

abbrev pub mapped : {A B : Type 0} → (A → B) → Out A → Out B
mapped f (ok a) = ok (f a)
mapped f (stop e c) = stop e c

pub renamed : {A B : Type 0} (p : Program (Out A)) (f : A → B) (t : Journaled)
    → interpret logging (p >>= (λ a. done (f a))) t ≡ response (mapped f (interpret logging p t).out) (interpret logging p t).world
unfolding onward interpret
renamed {A = A} {B = B} p f t = bind p (λ a. done (f a)) t ∙ go (interpret logging p t).out (interpret logging p t).world
  where
    go : (o : Out A) (u : Journaled) → interpret logging (onward (λ a. done (f a)) o) u ≡ response (mapped f o) u
    go (ok a) u = refl
    go (stop e c) u = refl

pub renamed_twice : {A B C : Type 0} (p : Program (Out A)) (f : A → B) (g : B → C) (t : Journaled)
    → interpret logging (p >>= (λ a. done (f a)) >>= (λ b. done (g b))) t ≡ response (mapped (λ a. g (f a)) (interpret logging p t).out) (interpret logging p t).world
renamed_twice {A = A} {B = B} {C = C} p f g t =
    renamed (p >>= (λ a. done (f a))) g t
    ∙ ap (λ (x : Response Journaled (Out B)). response (mapped g x.out) x.world) (renamed p f t)
    ∙ go (interpret logging p t).out (interpret logging p t).world
  where
    go : (o : Out A) (u : Journaled) → response (mapped g (mapped f o)) u ≡ response (mapped (λ a. g (f a)) o) u
    go (ok a) u = refl
    go (stop e c) u = refl

-- ---- an instruction

-- whether it is a KCALL
pub kcall_one : (a : Action) (o : Monadic) (k : MonadicMode) (v : ℕ) (z : Bool) → a ≡ One o k v → ((l : MonadicMode) (w : ℕ) → z ≡ is_kcall (one_operand o l w))
    → z ≡ is_kcall (action_of a)
kcall_one a o k v z h e = rw h (e k v)

-- what tracing makes of it, as a number below 3
pub classed_low : (k : ℕ) (c : Traced) → traced_from k ≡ c → k < 2 → (traced_from k ≡ c) × (k < 3)
classed_low k c e h = (e, omega arith)

pub classed_high : (k : ℕ) (c : Traced) → traced_from k ≡ c → 2 ≤ k → (traced_from 2 ≡ c) × (2 < 3)
classed_high k c e h = (sym (simp (ne_eqb k 0 (λ f. omega arith), ne_eqb k 1 (λ f. omega arith))) ∙ e, omega arith)

-- a finished instruction's answer
answers_class : (v : ℕ) (c : Traced) (b : Bank) (q : Cache) → traced_from v ≡ c → v < 3 → attempted_out (answer_of v) b q ≡ ok (acted (finished c (cpu b q)))
answers_class v c b q e h =
    let l : v < 2 ^ 32 = omega arith in
    let k : v < 4 = omega arith in
    simp (answer_got v l, lt-ltb v 4 k, lt-ltb v 3 h, e)

module _ (confined : Bool) (c : Cpu) (i : Instruction) (n : ℕ) (k z : Bool) (ek : k ≡ is_kcall (normal i)) (ez : z ≡ (confined && k)) (t : Journaled) where
  abbrev done_as : Cpu → Attempted
  done_as d = acted (finished (traced (normal i)) d)

  pub kcall_stops : (b : Bank) (q : Cache) → z ≡ true → response (attempted_out (answer_of 0x20) b q) t ≡ interpret logging (act_of confined c (to_instruction i n)) t
  unfolding act_of act_confined ◌>>=◌ onward after interpret
  kcall_stops b q h =
      let l : confined ≡ true = and_left confined k (sym ez ∙ h) in
      let o : is_kcall (normal i) ≡ true = sym ek ∙ and_right confined k (sym ez ∙ h) in
      rw (answer_got 0x20 (omega arith), l, o) refl

  -- else it is executed
  meets_acted : z ≡ false → interpret logging (act_of confined c (to_instruction i n)) t ≡ response (mapped done_as (interpret logging (execute c i n) t).out) (interpret logging (execute c i n) t).world
  unfolding act_of act_confined act
  meets_acted h = go confined k ek (sym ez ∙ h)
    where
      go : (f l : Bool) → l ≡ is_kcall (normal i) → (f && l) ≡ false
          → interpret logging (act_of f c (to_instruction i n)) t ≡ response (mapped done_as (interpret logging (execute c i n) t).out) (interpret logging (execute c i n) t).world
      go true l el e = rw (sym el ∙ e) (renamed_twice (execute c i n) (λ d. carried_out (traced (normal i)) d) of_confined t)
      go false l el e = renamed_twice (execute c i n) (λ d. finished (traced (normal i)) d) (λ a. acted a) t

  module _ (x : ℕ) (b : Bank) (q : Cache) (u : Journaled) (e : response (cpu_out (answer_of x) b q) u ≡ interpret logging (execute c i n) t) (h : z ≡ false) where
    mapped_out : response (mapped done_as (cpu_out (answer_of x) b q)) u ≡ interpret logging (act_of confined c (to_instruction i n)) t
    mapped_out = ap (λ (g : Response Journaled (Out Cpu)). response (mapped done_as g.out) g.world) e ∙ sym (meets_acted h)

    pub instruction_stops : 2 ^ 32 ≤ x → response (attempted_out (answer_of x) b q) u ≡ interpret logging (act_of confined c (to_instruction i n)) t
    instruction_stops l = same ∙ mapped_out
      where
        same : response (attempted_out (answer_of x) b q) u ≡ response (mapped done_as (cpu_out (answer_of x) b q)) u
        same = rw (answer_high x l) refl

    pub instruction_ends : x < 2 ^ 32 → (v : ℕ) → traced_from v ≡ traced (normal i) → v < 3 → response (attempted_out (answer_of v) b q) u ≡ interpret logging (act_of confined c (to_instruction i n)) t
    unfolding answer_of
    instruction_ends l v ev lv = ap (λ (o : Out Attempted). response o u) (answers_class v (traced (normal i)) b q ev lv) ∙ same ∙ mapped_out
      where
        same : response (ok (done_as (cpu b q))) u ≡ response (mapped done_as (cpu_out (answer_of x) b q)) u
        same = simp (lt-ltb x (2 ^ 32) l)

-- ---- an unimplemented instruction or a trap

module _ (confined : Bool) (c : Cpu) (v : ℕ) (t : Journaled) where
  pub unimplemented_stops : (b : Bank) (q : Cache) → confined ≡ true → response (attempted_out (answer_of 0x21) b q) t ≡ interpret logging (act_of confined c (to_vector v)) t
  unfolding act_of act_confined ◌>>=◌ onward after interpret
  unimplemented_stops b q h = rw (answer_got 0x21 (omega arith), h) refl

  module _ (x : ℕ) (b : Bank) (q : Cache) (u : Journaled) (e : response (cpu_out (answer_of x) b q) u ≡ interpret logging (unimplemented_sequence c v) t) (h : confined ≡ false) where
    sequenced_out : response (mapped (λ d. acted (sequenced d)) (cpu_out (answer_of x) b q)) u ≡ interpret logging (act_of confined c (to_vector v)) t
    unfolding act_of act
    sequenced_out =
        ap (λ (g : Response Journaled (Out Cpu)). response (mapped (λ d. acted (sequenced d)) g.out) g.world) e
        ∙ sym (rw h (renamed_twice (unimplemented_sequence c v) (λ d. sequenced d) (λ a. acted a) t))

    pub sequence_stops : 2 ^ 32 ≤ x → response (attempted_out (answer_of x) b q) u ≡ interpret logging (act_of confined c (to_vector v)) t
    sequence_stops l = same ∙ sequenced_out
      where
        same : response (attempted_out (answer_of x) b q) u ≡ response (mapped (λ d. acted (sequenced d)) (cpu_out (answer_of x) b q)) u
        same = rw (answer_high x l) refl

    pub sequence_ends : x < 2 ^ 32 → response (attempted_out (answer_of 3) b q) u ≡ interpret logging (act_of confined c (to_vector v)) t
    unfolding answer_of
    sequence_ends l = same ∙ sequenced_out
      where
        same : response (attempted_out (answer_of 3) b q) u ≡ response (mapped (λ d. acted (sequenced d)) (cpu_out (answer_of x) b q)) u
        same = simp (lt-ltb x (2 ^ 32) l)
