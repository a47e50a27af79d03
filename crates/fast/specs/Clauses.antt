-- What contracts of jumps, calls and stacks say where the cache is not lent: whatever it is.
-- Assumes nothing.
use Rattle.std.specs.Prelude.{◌≡◌, true}
use Rattle.memory.specs.Bytes.{Memory}
use Rattle.access_spec.specs.Program.{Program}
use Rattle.access_spec.specs.Clauses.{Lent}
use Rattle.machine.specs.Registers.{Bank}
use Rattle.machine.specs.Cache.{Cache}
use Rattle.machine.specs.Status.{Cpu, cpu}
use Rattle.datapath.specs.Parts.{Out, done}
use Rattle.step_spec.specs.Step.{holds_stack}
use Rattle.fast_dyadic.specs.Fast.{gives}

-- f asks for nothing, and leaves these registers
abbrev pub DoneAnyCache : Lent Bank → (Cpu → Program (Out Cpu)) → Type 0
DoneAnyCache r f = (q : Cache) → f (cpu r.entry.now q) ≡ done (cpu r.exit.now q)

-- f leaves these registers, and memory as it is
abbrev pub GivesAnyCache : Lent Memory → Lent Bank → (Cpu → Program (Out Cpu)) → Type 0
GivesAnyCache m r f = (q : Cache) → gives (f (cpu r.entry.now q)) m.entry.now (cpu r.exit.now q) m.entry.now

-- they hold the stack just where those that were lent did
abbrev pub StackAsBeforeAnyCache : Lent Bank → Type 0
StackAsBeforeAnyCache r = (q : Cache) → holds_stack (cpu r.exit.now q) ≡ holds_stack (cpu r.entry.now q)

-- they hold it
abbrev pub StackHeldAnyCache : Lent Bank → Type 0
StackHeldAnyCache r = (q : Cache) → holds_stack (cpu r.exit.now q) ≡ true
