-- The ways out of instructions of one operand.
-- Assumes nothing.
use mathlib.Core.Path.{◌≡◌, ap, ◌∙◌}
use mathlib.Core.Bool.{Bool, not}
use Prim.Native.Nat.{ℕ}
use native.Mathlib.Omega.{arith}
use Rattle.word.specs.Fields.{bit_of}
use Rattle.isa.specs.declared.MonadicMode.{MonadicMode}
use Rattle.memory.specs.Answers.{answer_of}
use Rattle.access_spec.specs.Access.{Response, response}
use Rattle.access_spec.specs.Program.{interpret}
use Rattle.access_spec.specs.Journal.{Journaled, logging}
use Rattle.machine.specs.Registers.{Bank, word, psw}
use Rattle.machine.specs.Cache.{Cache}
use Rattle.machine.specs.Status.{Cpu, cpu}
use Rattle.datapath.specs.Parts.{Out}
use Rattle.datapath.specs.Code.{cpu_out}
use Rattle.machine.specs.Bits.{flag_bit}
use Rattle.exec_spec.specs.Control.{pc_advanced, jump, jump_if, call, load_address, released, return}
use Rattle.exec_spec.specs.Stack.{enter, catch}
use Rattle.exec_spec.specs.EventFrames.{kcall}
use Rattle.exec_spec.specs.declared.Monadic.{Monadic}
use Rattle.exec_spec.specs.declared.Monadic.TheVariants as monadic
use Rattle.exec_spec.specs.Execute.{execute_monadic}
use Rattle.exec_flow.proofs.EndLaws.{finished}
use Rattle.machine.proofs.BankLaws.{Made}

module _ (b : Bank) (q : Cache) (o : Monadic) (k : MonadicMode) (v n : ℕ) (t : Journaled) where
  module _ (g : Response Journaled (Out Cpu)) where
    pub is_kcall_law : o ≡ monadic.Kcall → g ≡ interpret logging (kcall (cpu b q) k v n) t → g ≡ interpret logging (execute_monadic (cpu b q) o k v n) t
    unfolding execute_monadic
    is_kcall_law h e = rw h e

    pub is_call : o ≡ monadic.Call → g ≡ interpret logging (call (cpu b q) k v n) t → g ≡ interpret logging (execute_monadic (cpu b q) o k v n) t
    unfolding execute_monadic
    is_call h e = rw h e

    pub is_return : o ≡ monadic.Return → g ≡ interpret logging (return (cpu b q) v) t → g ≡ interpret logging (execute_monadic (cpu b q) o k v n) t
    unfolding execute_monadic
    is_return h e = rw h e

    pub is_jmp : o ≡ monadic.Jmp → g ≡ interpret logging (jump (cpu b q) k v) t → g ≡ interpret logging (execute_monadic (cpu b q) o k v n) t
    unfolding execute_monadic
    is_jmp h e = rw h e

    -- f is the flag
    module _ (f : Bool) (ef : f ≡ bit_of (word b psw) flag_bit) where
      pub is_jmp_false : o ≡ monadic.JmpFalse → g ≡ interpret logging (jump_if (not f) (cpu b q) k v n) t → g ≡ interpret logging (execute_monadic (cpu b q) o k v n) t
      unfolding execute_monadic
      is_jmp_false h e = rw (h, ← ef) e

      pub is_jmp_true : o ≡ monadic.JmpTrue → g ≡ interpret logging (jump_if f (cpu b q) k v n) t → g ≡ interpret logging (execute_monadic (cpu b q) o k v n) t
      unfolding execute_monadic
      is_jmp_true h e = rw (h, ← ef) e

    pub is_catch : o ≡ monadic.Catch → g ≡ interpret logging (catch (cpu b q) k v n) t → g ≡ interpret logging (execute_monadic (cpu b q) o k v n) t
    unfolding execute_monadic
    is_catch h e = rw h e

    pub is_enter : o ≡ monadic.Enter → g ≡ interpret logging (enter (cpu b q) k v n) t → g ≡ interpret logging (execute_monadic (cpu b q) o k v n) t
    unfolding execute_monadic
    is_enter h e = rw h e

    pub is_ldraa : o ≡ monadic.Ldraa → g ≡ interpret logging (load_address (cpu b q) k v n) t → g ≡ interpret logging (execute_monadic (cpu b q) o k v n) t
    unfolding execute_monadic
    is_ldraa h e = rw h e

  pub is_flush : o ≡ monadic.Flush → (d : Bank) → Made b d (λ c. pc_advanced c n) → response (cpu_out (answer_of 0) d q) t ≡ interpret logging (execute_monadic (cpu b q) o k v n) t
  unfolding execute_monadic interpret
  is_flush h d e = rw h (finished 0 d q (pc_advanced (cpu b q) n) t (omega arith) (e q))

  pub is_popn : o ≡ monadic.Popn → (s d : Bank) → Made b s (λ c. released c v) → Made s d (λ c. pc_advanced c n) → response (cpu_out (answer_of 0) d q) t ≡ interpret logging (execute_monadic (cpu b q) o k v n) t
  unfolding execute_monadic interpret
  is_popn h s d f e = rw h (finished 0 d q (pc_advanced (released (cpu b q) v) n) t (omega arith) (e q ∙ ap (λ (c : Cpu). pc_advanced c n) (f q)))
