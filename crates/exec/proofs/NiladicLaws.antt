-- The ways out of instructions without operands.
-- Assumes nothing.
use mathlib.Core.Path.{◌≡◌, sym, ap, ◌∙◌}
use mathlib.Core.Bool.{Bool, true, false}
use Prim.Native.Nat.{ℕ}
use native.Mathlib.Omega.{arith}
use Rattle.memory.specs.Answers.{raised, answer_of}
use Rattle.access_spec.specs.Access.{Response, response}
use Rattle.access_spec.specs.Program.{Program, interpret}
use Rattle.access_spec.specs.Journal.{Journaled, logging}
use Rattle.machine.specs.Registers.{Bank}
use Rattle.machine.specs.Cache.{Cache}
use Rattle.machine.specs.Status.{Cpu, cpu, is_user}
use Rattle.datapath.specs.Parts.{Out}
use Rattle.datapath.specs.Code.{cpu_out}
use Rattle.machine.specs.Bits.{carry_bit, overflow_bit}
use Rattle.exec_spec.specs.Control.{pc_advanced, test_bit, with_guard}
use Rattle.exec_spec.specs.EventFrames.{kret, cret, privileged}
use Rattle.exec_spec.specs.declared.Niladic.{Niladic}
use Rattle.exec_spec.specs.declared.Niladic.TheVariants as niladic
use Rattle.exec_spec.specs.Execute.{execute_niladic}
use Rattle.exec_flow.proofs.EndLaws.{finished}
use Rattle.machine.proofs.BankLaws.{Made}

module _ (b : Bank) (q : Cache) (p : Program (Out Cpu)) (t : Journaled) (z : Bool) (ez : z ≡ is_user b) where
  pub user_stopped : z ≡ true → (x : ℕ) → answer_of x ≡ raised 5 → response (cpu_out (answer_of x) b q) t ≡ interpret logging (privileged (cpu b q) p) t
  unfolding privileged interpret
  user_stopped h x e = rw (sym ez ∙ h, e)

  pub kernel_gone : z ≡ false → (g : Response Journaled (Out Cpu)) → g ≡ interpret logging p t → g ≡ interpret logging (privileged (cpu b q) p) t
  unfolding privileged
  kernel_gone h g e = rw (sym ez ∙ h) e

module _ (b : Bank) (q : Cache) (o : Niladic) (n : ℕ) (t : Journaled) where
  module _ (g : Response Journaled (Out Cpu)) where
    pub is_kret : o ≡ niladic.Kret → g ≡ interpret logging (privileged (cpu b q) (kret (cpu b q))) t → g ≡ interpret logging (execute_niladic (cpu b q) o n) t
    unfolding execute_niladic
    is_kret h e = rw h e

    pub is_cret : o ≡ niladic.Cret → g ≡ interpret logging (privileged (cpu b q) (cret (cpu b q))) t → g ≡ interpret logging (execute_niladic (cpu b q) o n) t
    unfolding execute_niladic
    is_cret h e = rw h e

  pub is_nop : o ≡ niladic.Nop → (d : Bank) → Made b d (λ c. pc_advanced c n) → response (cpu_out (answer_of 0) d q) t ≡ interpret logging (execute_niladic (cpu b q) o n) t
  unfolding execute_niladic interpret
  is_nop h d e = rw h (finished 0 d q (pc_advanced (cpu b q) n) t (omega arith) (e q))

  -- s is the bank before PC goes on
  module _ (s d : Bank) (e : Made s d (λ c. pc_advanced c n)) where
    pub is_testv : o ≡ niladic.Testv → Made b s (λ c. test_bit c overflow_bit) → response (cpu_out (answer_of 0) d q) t ≡ interpret logging (execute_niladic (cpu b q) o n) t
    unfolding execute_niladic interpret
    is_testv h f = rw h (finished 0 d q (pc_advanced (test_bit (cpu b q) overflow_bit) n) t (omega arith) (e q ∙ ap (λ (c : Cpu). pc_advanced c n) (f q)))

    pub is_testc : o ≡ niladic.Testc → Made b s (λ c. test_bit c carry_bit) → response (cpu_out (answer_of 0) d q) t ≡ interpret logging (execute_niladic (cpu b q) o n) t
    unfolding execute_niladic interpret
    is_testc h f = rw h (finished 0 d q (pc_advanced (test_bit (cpu b q) carry_bit) n) t (omega arith) (e q ∙ ap (λ (c : Cpu). pc_advanced c n) (f q)))

    pub is_clre : o ≡ niladic.Clre → Made b s (λ c. with_guard c false) → response (cpu_out (answer_of 0) d q) t ≡ interpret logging (execute_niladic (cpu b q) o n) t
    unfolding execute_niladic interpret
    is_clre h f = rw h (finished 0 d q (pc_advanced (with_guard (cpu b q) false) n) t (omega arith) (e q ∙ ap (λ (c : Cpu). pc_advanced c n) (f q)))
