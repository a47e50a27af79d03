-- The ways out of jumps, calls and returns.
-- Assumes nothing.
use Prim.Native.Nat.{ℕ, ◌%◌, ◌^◌, ◌<◌, ◌≤◌}
use mathlib.Core.Path.{◌≡◌, refl, sym, ap, ◌∙◌}
use mathlib.Core.Bool.{Bool, true, false}
use mathlib.Core.List.{[]}
use native.Mathlib.Omega.{arith}
use Rattle.word.specs.declared.Width.TheVariants.{Word}
use Rattle.isa.specs.declared.MonadicMode.{MonadicMode}
use Rattle.memory.specs.Answers.{answer_of}
use Rattle.access_spec.specs.Access.{Response, response}
use Rattle.access_spec.specs.Program.{Program, interpret}
use Rattle.access_spec.specs.Journal.{Journaled, logging}
use Rattle.machine.specs.Registers.{Bank, word}
use Rattle.machine.specs.Cache.{Cache}
use Rattle.machine.specs.Status.{Cpu, cpu, csp}
use Rattle.machine.proofs.BankLaws.{Made}
use Rattle.datapath.specs.Parts.{Out, done}
use Rattle.datapath.specs.Data.{read_data, write_data}
use Rattle.datapath.specs.Code.{cpu_out}
use Rattle.datapath.proofs.PartLaws.{goes, stops_ended, ended_goes, ended_stops}
use Rattle.exec_spec.specs.Operands.{stack_address, write_accumulator}
use Rattle.exec_spec.specs.Control.{read_word32, jumped, pc_advanced, next_pc, jump, jump_if, call, load_address, released, return, call_to, load_accumulator}
use Rattle.exec_flow.proofs.EndLaws.{finished}
use Rattle.exec_flow.proofs.WordLaws.{Valued}

-- ---- after the operand

module _ (b : Bank) (q : Cache) (k : MonadicMode) (v x : ℕ) (s : Bank) (t u : Journaled) (e : Valued b q x s (read_word32 (cpu b q) k v) t u) where
  module _ (n : ℕ) where
    abbrev then_jump : ℕ → Program (Out Cpu)
    then_jump a = done (jumped (cpu b q) a)

    abbrev then_call : ℕ → Program (Out Cpu)
    then_call a = call_to (cpu b q) a n

    abbrev then_load : ℕ → Program (Out Cpu)
    then_load a = load_accumulator (cpu b q) a n

  module _ (h : 2 ^ 32 ≤ x) where
    pub jump_stopped : response (cpu_out (answer_of x) s q) u ≡ interpret logging (jump (cpu b q) k v) t
    unfolding jump
    jump_stopped = stops_ended (λ v. v) s q x (read_word32 (cpu b q) k v) (then_jump 0) t u e.0 h

    pub call_stopped : (n : ℕ) → response (cpu_out (answer_of x) s q) u ≡ interpret logging (call (cpu b q) k v n) t
    unfolding call call_to
    call_stopped n = stops_ended (λ v. v) s q x (read_word32 (cpu b q) k v) (then_call n) t u e.0 h

    pub load_stopped : (n : ℕ) → response (cpu_out (answer_of x) s q) u ≡ interpret logging (load_address (cpu b q) k v n) t
    unfolding load_address load_accumulator
    load_stopped n = stops_ended (λ v. v) s q x (read_word32 (cpu b q) k v) (then_load n) t u e.0 h

  module _ (h : x < 2 ^ 32) (a : ℕ) (ea : a ≡ x % 2 ^ 32) where
    kept : s ≡ b
    kept = e.1 h

    pub jump_gone : (d : Bank) → Made s d (λ c. jumped c a) → response (cpu_out (answer_of x) d q) u ≡ interpret logging (jump (cpu b q) k v) t
    unfolding jump interpret
    jump_gone d f =
        finished x d q (jumped (cpu b q) (x % 2 ^ 32)) u h (f q ∙ same)
        ∙ sym (goes (λ v. v) s q x (read_word32 (cpu b q) k v) (then_jump 0) t u e.0 h)
      where
        same : jumped (cpu s q) a ≡ jumped (cpu b q) (x % 2 ^ 32)
        same = rw (kept, ea) refl

    module _ (n : ℕ) (g : Response Journaled (Out Cpu)) where
      pub call_gone : g ≡ interpret logging (call_to (cpu s q) a n) u → g ≡ interpret logging (call (cpu b q) k v n) t
      unfolding call call_to
      call_gone f = f ∙ same ∙ sym (goes (λ v. v) s q x (read_word32 (cpu b q) k v) (then_call n) t u e.0 h)
        where
          same : interpret logging (call_to (cpu s q) a n) u ≡ interpret logging (then_call n (x % 2 ^ 32)) u
          same = rw (kept, ea) refl

      pub load_gone : g ≡ interpret logging (load_accumulator (cpu s q) a n) u → g ≡ interpret logging (load_address (cpu b q) k v n) t
      unfolding load_address load_accumulator
      load_gone f = f ∙ same ∙ sym (goes (λ v. v) s q x (read_word32 (cpu b q) k v) (then_load n) t u e.0 h)
        where
          same : interpret logging (load_accumulator (cpu s q) a n) u ≡ interpret logging (then_load n (x % 2 ^ 32)) u
          same = rw (kept, ea) refl

-- ---- JMPT and JMPF

module _ (b : Bank) (q : Cache) (z : Bool) (k : MonadicMode) (v n : ℕ) (t : Journaled) where
  pub jump_taken : z ≡ true → (g : Response Journaled (Out Cpu)) → g ≡ interpret logging (jump (cpu b q) k v) t → g ≡ interpret logging (jump_if z (cpu b q) k v n) t
  unfolding jump_if
  jump_taken h g e = rw h e

  pub jump_passed : z ≡ false → (d : Bank) → Made b d (λ c. pc_advanced c n) → response (cpu_out (answer_of 0) d q) t ≡ interpret logging (jump_if z (cpu b q) k v n) t
  unfolding jump_if interpret
  jump_passed h d e = rw h (finished 0 d q (pc_advanced (cpu b q) n) t (omega arith) (e q))

-- ---- the word that CALL and LDRAA write; d is the bank after it, p the cache

module _ (b : Bank) (q : Cache) (i w x : ℕ) (s : Bank) (p : Cache) (t u : Journaled) (e : response (cpu_out (answer_of x) s p) u ≡ interpret logging (write_data (cpu b q) Word i w) t) where
  module _ (a n : ℕ) (ei : i ≡ word b (csp b)) (ew : w ≡ next_pc (cpu b []) n) where
    pub called_stopped : 2 ^ 32 ≤ x → response (cpu_out (answer_of x) s p) u ≡ interpret logging (call_to (cpu b q) a n) t
    unfolding call_to
    called_stopped h = rw (← ei, ← ew) (ended_stops s p x (write_data (cpu b q) Word i w) (λ d. done (jumped d a)) t u e h)

    pub called_gone : x < 2 ^ 32 → (d : Bank) → Made s d (λ c. jumped c a) → response (cpu_out (answer_of x) d p) u ≡ interpret logging (call_to (cpu b q) a n) t
    unfolding call_to interpret
    called_gone h d f =
        rw (← ei, ← ew)
        (finished x d p (jumped (cpu s p) a) u h (f p) ∙ sym (ended_goes s p x (write_data (cpu b q) Word i w) (λ d. done (jumped d a)) t u e h))

  module _ (n : ℕ) (ei : i ≡ stack_address (cpu b []) 4) where
    pub accumulated_stopped : 2 ^ 32 ≤ x → response (cpu_out (answer_of x) s p) u ≡ interpret logging (load_accumulator (cpu b q) w n) t
    unfolding load_accumulator write_accumulator
    accumulated_stopped h = rw (← ei) (ended_stops s p x (write_data (cpu b q) Word i w) (λ d. done (pc_advanced d n)) t u e h)

    pub accumulated_gone : x < 2 ^ 32 → (d : Bank) → Made s d (λ c. pc_advanced c n) → response (cpu_out (answer_of x) d p) u ≡ interpret logging (load_accumulator (cpu b q) w n) t
    unfolding load_accumulator write_accumulator interpret
    accumulated_gone h d f =
        rw (← ei)
        (finished x d p (pc_advanced (cpu s p) n) u h (f p) ∙ sym (ended_goes s p x (write_data (cpu b q) Word i w) (λ d. done (pc_advanced d n)) t u e h))

-- ---- RETURN

module _ (b : Bank) (q : Cache) (v i x : ℕ) (s : Bank) (t u : Journaled) (ei : i ≡ stack_address (cpu b []) v) (e : Valued b q x s (read_data (cpu b q) Word i) t u) where
  abbrev then_return : ℕ → Program (Out Cpu)
  then_return a = done (jumped (released (cpu b q) v) a)

  pub return_stopped : 2 ^ 32 ≤ x → response (cpu_out (answer_of x) s q) u ≡ interpret logging (return (cpu b q) v) t
  unfolding return
  return_stopped h = rw (← ei) (stops_ended (λ v. v) s q x (read_data (cpu b q) Word i) then_return t u e.0 h)

  pub return_gone : x < 2 ^ 32 → (d : Bank) → Made s d (λ c. released c v) → (a : ℕ) → a ≡ x % 2 ^ 32 → (f : Bank) → Made d f (λ c. jumped c a)
      → response (cpu_out (answer_of x) f q) u ≡ interpret logging (return (cpu b q) v) t
  unfolding return interpret
  return_gone h d ed a ea f ef =
      rw (← ei)
      (finished x f q (jumped (released (cpu b q) v) (x % 2 ^ 32)) u h (ef q ∙ ap (λ (c : Cpu). jumped c a) (ed q) ∙ same)
      ∙ sym (goes (λ v. v) s q x (read_data (cpu b q) Word i) then_return t u e.0 h))
    where
      kept : s ≡ b
      kept = e.1 h

      same : jumped (released (cpu s q) v) a ≡ jumped (released (cpu b q) v) (x % 2 ^ 32)
      same = rw (kept, ea) refl
