-- What contracts say of a part of an instruction: under the journal it ends as its program f does on the machine that was lent.
-- Assumes nothing.
use Rattle.std.specs.Prelude.{ℕ, ◌≡◌}
use Rattle.memory.specs.Answers.{answer_of}
use Rattle.memory.specs.Bytes.{Memory}
use Rattle.access_spec.specs.Program.{Program}
use Rattle.access_spec.specs.Journal.{Journal}
use Rattle.access_spec.specs.Clauses.{Lent, unchanged, unless_faulted, Interprets, InterpretsReadOnly}
use Rattle.machine.specs.Registers.{Bank}
use Rattle.machine.specs.Cache.{Cache}
use Rattle.machine.specs.Status.{Cpu, cpu}
use Rattle.datapath.specs.Parts.{Out}
use Rattle.datapath.specs.Code.{cpu_out, giving, value_out}

-- the machine of the lent cache and registers, as it was and as it is left
abbrev pub entry_cpu : Lent Cache → Lent Bank → Cpu
entry_cpu q r = cpu r.entry.now q.entry.now

abbrev pub exit_cpu : Lent Cache → Lent Bank → Cpu
exit_cpu q r = cpu r.exit.now q.exit.now

-- the registers are left as f leaves them, whatever the cache: it is not lent
abbrev pub Becomes : Lent Bank → (Cpu → Cpu) → Type 0
Becomes r f = (q : Cache) → cpu r.exit.now q ≡ f (cpu r.entry.now q)

-- ---- parts that leave a machine: x is how f ends, and the machine is left as f leaves it, also by an exception

abbrev pub Ends : ℕ → Lent Memory → Lent Journal → Lent Cache → Lent Bank → (Cpu → Program (Out Cpu)) → Type 0
Ends x m j q r f = Interprets (cpu_out (answer_of x) r.exit.now q.exit.now) m j (f (entry_cpu q r))

-- whatever the cache: it is not lent
abbrev pub EndsAnyCache : ℕ → Lent Memory → Lent Journal → Lent Bank → (Cpu → Program (Out Cpu)) → Type 0
EndsAnyCache x m j r f = (q : Cache) → Interprets (cpu_out (answer_of x) r.exit.now q) m j (f (cpu r.entry.now q))

-- nor is the journal, and memory is only read
abbrev pub EndsReadOnly : ℕ → Memory → Lent Bank → (Cpu → Program (Out Cpu)) → Type 0
EndsReadOnly x m r f =
    (q : Cache) (j : Journal) → InterpretsReadOnly (cpu_out (answer_of x) r.exit.now q) m j (f (cpu r.entry.now q))

-- ---- parts that give a value, and change the registers by an exception only

-- x is the value that f gives, as read by g
abbrev pub YieldsAs : {A : Type 0} → (ℕ → A) → ℕ → Lent Memory → Lent Journal → Lent Cache → Lent Bank → (Cpu → Program (Out A)) → Type 0
YieldsAs g x m j q r f =
    Interprets (giving g (answer_of x) r.exit.now q.exit.now) m j (f (entry_cpu q r)) × unless_faulted x (unchanged r)

abbrev pub Yields : ℕ → Lent Memory → Lent Journal → Lent Cache → Lent Bank → (Cpu → Program (Out ℕ)) → Type 0
Yields x m j q r f = YieldsAs (λ v. v) x m j q r f

-- neither cache nor journal is lent, and memory is only read
abbrev pub YieldsReadOnly : ℕ → Memory → Lent Bank → (Cpu → Program (Out ℕ)) → Type 0
YieldsReadOnly x m r f =
    (q : Cache) (j : Journal)
    → InterpretsReadOnly (value_out (answer_of x) r.exit.now q) m j (f (cpu r.entry.now q)) × unless_faulted x (unchanged r)

-- registers are only read, whatever the cache: out says of a machine what the code's answer is there
abbrev pub Fetches : {A : Type 0} → (Cpu → Out A) → Lent Memory → Lent Journal → Bank → (Cpu → Program (Out A)) → Type 0
Fetches out m j r f = (q : Cache) → Interprets (out (cpu r q)) m j (f (cpu r q))
