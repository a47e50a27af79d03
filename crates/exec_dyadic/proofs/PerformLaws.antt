-- An instruction of two operands by its task, after the check of its registers.
-- Assumes nothing.
use Prim.Native.Nat.{ℕ, ◌<◌, ◌≤◌, ◌^◌}
use mathlib.Core.Path.{◌≡◌, refl, sym, ap, ◌∙◌}
use Rattle.isa.specs.declared.Operand.{Operand}
use Rattle.isa.specs.declared.Wide.{Wide}
use Rattle.memory.specs.Answers.{answer_of}
use Rattle.memory.proofs.AnswerLaws.{answer_low, answer_high}
use Rattle.access_spec.specs.Access.{Response, response}
use Rattle.access_spec.specs.Program.{Program, ret, interpret, after}
use Rattle.access_spec.specs.Journal.{Journaled, logging}
use Rattle.machine.specs.Registers.{Bank}
use Rattle.machine.specs.Cache.{Cache}
use Rattle.machine.specs.Status.{Cpu, cpu}
use Rattle.datapath.specs.Parts.{Out, onward, ◌>>=◌}
use Rattle.datapath.specs.Code.{cpu_out}
use Rattle.exec_spec.specs.declared.Task.{Task}
use Rattle.exec_spec.specs.Operands.{check_registers}
use Rattle.exec_spec.specs.Dyadic.{perform, dyadic}

pub performed : (c : Cpu) (w : Wide) (t j : Task) (s d : Operand) (u : Journaled) → t ≡ j → (R : Response Journaled (Out Cpu))
    → R ≡ interpret logging (perform c w j s d) u → R ≡ interpret logging (perform c w t s d) u
performed c w t j s d u e R f = f ∙ sym (ap (λ (k : Task). interpret logging (perform c w k s d) u) e)

module _ (b : Bank) (q : Cache) (w : Wide) (t : Task) (s d : Operand) (z : ℕ) (u : Journaled)
    (e : (k : Cache) → ret (cpu_out (answer_of z) b k) ≡ check_registers (cpu b k) s d) where
  abbrev checked_then : Program (Out Cpu) → Response Journaled (Out Cpu)
  checked_then p = interpret logging (p >>= (λ c. perform c w t s d)) u

  pub check_stops : 2 ^ 32 ≤ z → response (cpu_out (answer_of z) b q) u ≡ interpret logging (dyadic (cpu b q) w t s d) u
  unfolding dyadic ◌>>=◌ after onward interpret
  check_stops h = lhs ∙ ap checked_then (e q)
    where
      lhs : response (cpu_out (answer_of z) b q) u ≡ checked_then (ret (cpu_out (answer_of z) b q))
      lhs = rw (answer_high z h) refl

  pub check_goes : z < 2 ^ 32 → (R : Response Journaled (Out Cpu)) → R ≡ interpret logging (perform (cpu b q) w t s d) u
      → R ≡ interpret logging (dyadic (cpu b q) w t s d) u
  unfolding dyadic ◌>>=◌ after onward interpret
  check_goes h R f = f ∙ rhs ∙ ap checked_then (e q)
    where
      rhs : interpret logging (perform (cpu b q) w t s d) u ≡ checked_then (ret (cpu_out (answer_of z) b q))
      rhs = rw (answer_low z h) refl
