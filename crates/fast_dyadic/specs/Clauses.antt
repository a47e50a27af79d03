-- What contracts of the fast way say, of memory alone: what it did, or that all is left as it was.
-- Assumes nothing.
use Rattle.std.specs.Prelude.{ℕ, ◌≡◌, Bool, []}
use Rattle.isa.specs.declared.Mode.TheVariants.{StackWord}
use Rattle.isa.specs.declared.Operand.TheVariants.{General}
use Rattle.isa.specs.declared.Wide.{Wide}
use Rattle.memory.specs.Bytes.{Memory}
use Rattle.access_spec.specs.Program.{Program}
use Rattle.access_spec.specs.Clauses.{Lent, unchanged, IfElse}
use Rattle.machine.specs.Registers.{Bank}
use Rattle.machine.specs.Cache.{Cache}
use Rattle.machine.specs.Status.{Cpu, cpu}
use Rattle.datapath.specs.Parts.{Out, done}
use Rattle.datapath.specs.Clauses.{entry_cpu, exit_cpu}
use Rattle.exec_spec.specs.declared.Task.{Task}
use Rattle.exec_spec.specs.Operands.{stack_address}
use Rattle.step_spec.specs.Step.{holds_stack}
use Rattle.fast_dyadic.specs.Fast.{gives, after_source}

-- the program f gives the machine and the memory that are left
abbrev pub Gives : Lent Memory → Lent Cache → Lent Bank → (Cpu → Program (Out Cpu)) → Type 0
Gives m q r f = gives (f (entry_cpu q r)) m.entry.now (exit_cpu q r) m.exit.now

-- the program p gives a, and leaves memory as it is
abbrev pub GivesReadOnly : {A : Type 0} → A → Memory → Program (Out A) → Type 0
GivesReadOnly a m p = gives p m a m

-- the machine that is left holds its stack just where the one that was lent did
abbrev pub StackAsBefore : Lent Cache → Lent Bank → Type 0
StackAsBefore q r = holds_stack (exit_cpu q r) ≡ holds_stack (entry_cpu q r)

abbrev pub AllUnchanged : Lent Memory → Lent Cache → Lent Bank → Type 0
AllUnchanged m q r = unchanged m × unchanged r × unchanged q

-- by z, f was done, which leaves the stack as it was; or nothing was
abbrev pub FastEnds : Bool → Lent Memory → Lent Cache → Lent Bank → (Cpu → Program (Out Cpu)) → Type 0
FastEnds z m q r f = IfElse z (Gives m q r f × StackAsBefore q r) (AllUnchanged m q r)

-- what is left of the task t with the source x, its destination the stack word at a, was done without an access
abbrev pub AfterSourceDone : Task → ℕ → ℕ → Lent Cache → Lent Bank → Type 0
AfterSourceDone t a x q r =
    (w : Wide) (d : ℕ)
    → a ≡ stack_address (cpu r.entry.now []) d
    → after_source (entry_cpu q r) w t (General StackWord d) x ≡ done (exit_cpu q r)
