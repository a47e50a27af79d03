-- The ways out of an instruction by what it does.
-- Assumes nothing.
use Prim.Native.Nat.{ℕ, ◌^◌, ◌<◌, ◌≤◌}
use mathlib.Core.Path.{◌≡◌, sym, ◌∙◌}
use Rattle.isa.specs.declared.Operand.{Operand}
use Rattle.isa.specs.declared.Wide.{Wide}
use Rattle.isa.specs.declared.MonadicMode.{MonadicMode}
use Rattle.isa.specs.declared.Instruction.{Instruction}
use Rattle.memory.specs.Answers.{answer_of}
use Rattle.access_spec.specs.Access.{Response, response}
use Rattle.access_spec.specs.Program.{interpret}
use Rattle.access_spec.specs.Journal.{Journaled, logging}
use Rattle.machine.specs.Registers.{Bank}
use Rattle.machine.specs.Cache.{Cache}
use Rattle.machine.specs.Status.{Cpu, cpu}
use Rattle.datapath.specs.Parts.{Out, done}
use Rattle.datapath.specs.Code.{cpu_out}
use Rattle.exec_spec.specs.declared.Task.{Task}
use Rattle.exec_spec.specs.declared.Monadic.{Monadic}
use Rattle.exec_spec.specs.declared.Niladic.{Niladic}
use Rattle.exec_spec.specs.Control.{pc_advanced}
use Rattle.exec_spec.specs.Dyadic.{dyadic}
use Rattle.exec_spec.specs.Execute.{two_operands, normal, execute_monadic, execute_niladic, execute_normal, execute}
use Rattle.exec_rows.specs.declared.Action.{Action}
use Rattle.exec_rows.specs.declared.Action.TheVariants.{Two, One, Zero}
use Rattle.exec_rows.specs.Rows.{action_of}
use Rattle.datapath.proofs.PartLaws.{ended_goes, ended_stops}
use Rattle.exec_flow.proofs.EndLaws.{finished}
use Rattle.machine.proofs.BankLaws.{Made}

-- two operands: a is the bank after them, z with PC on
module _ (b : Bank) (q : Cache) (n : ℕ) (w : Wide) (k : Task) (s d : Operand) (x : ℕ) (a : Bank) (p : Cache) (t u : Journaled)
    (e : response (cpu_out (answer_of x) a p) u ≡ interpret logging (dyadic (cpu b q) w k s d) t) where
  pub two_stopped : 2 ^ 32 ≤ x → response (cpu_out (answer_of x) a p) u ≡ interpret logging (execute_normal (cpu b q) n (two_operands w k s d)) t
  unfolding execute_normal
  two_stopped h = ended_stops a p x (dyadic (cpu b q) w k s d) (λ c. done (pc_advanced c n)) t u e h

  pub two_done : x < 2 ^ 32 → (z : Bank) → Made a z (λ c. pc_advanced c n) → response (cpu_out (answer_of x) z p) u ≡ interpret logging (execute_normal (cpu b q) n (two_operands w k s d)) t
  unfolding execute_normal interpret
  two_done h z f =
      finished x z p (pc_advanced (cpu a p) n) u h (f p) ∙ sym (ended_goes a p x (dyadic (cpu b q) w k s d) (λ c. done (pc_advanced c n)) t u e h)

-- an instruction by what it does
module _ (c : Cpu) (n : ℕ) (a : Action) (t : Journaled) (g : Response Journaled (Out Cpu)) where
  pub does_two : (w : Wide) (k : Task) (s d : Operand) → a ≡ Two w k s d → g ≡ interpret logging (execute_normal c n (two_operands w k s d)) t
      → g ≡ interpret logging (execute_normal c n (action_of a)) t
  does_two w k s d h e = rw h e

  pub does_one : (o : Monadic) (k : MonadicMode) (v : ℕ) → a ≡ One o k v → g ≡ interpret logging (execute_monadic c o k v n) t
      → g ≡ interpret logging (execute_normal c n (action_of a)) t
  unfolding execute_normal
  does_one o k v h e = rw h e

  pub does_zero : (o : Niladic) → a ≡ Zero o → g ≡ interpret logging (execute_niladic c o n) t → g ≡ interpret logging (execute_normal c n (action_of a)) t
  unfolding execute_normal
  does_zero o h e = rw h e

-- an instruction by its action
pub executed : (c : Cpu) (i : Instruction) (n : ℕ) (t : Journaled) (g : Response Journaled (Out Cpu)) (a : Action) → action_of a ≡ normal i
    → g ≡ interpret logging (execute_normal c n (action_of a)) t → g ≡ interpret logging (execute c i n) t
unfolding execute
executed c i n t g a ea e = rw (sym ea) e
