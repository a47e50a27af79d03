-- What the code's answers say of operands, in the definitions' types.
-- Assumes nothing.
use Rattle.std.specs.Prelude.{ℕ, Bool, true, false, cond}
use Rattle.memory.specs.Answers.{Answer, good, raised, answer_of}
use Rattle.memory.specs.Bytes.{Memory}
use Rattle.isa.specs.declared.Mode.{Mode}
use Rattle.isa.specs.declared.Operand.{Operand}
use Rattle.isa.specs.declared.Operand.TheVariants.{General, Register}
use Rattle.access_spec.specs.Program.{Program, ret}
use Rattle.access_spec.specs.Journal.{Journal}
use Rattle.access_spec.specs.Clauses.{Lent, unchanged, unless_faulted, Continues}
use Rattle.machine.specs.Registers.{Bank, register_of}
use Rattle.machine.specs.Cache.{Cache}
use Rattle.machine.specs.Status.{Cpu, cpu}
use Rattle.datapath.specs.Parts.{Out, stop}
use Rattle.datapath.specs.Code.{giving}
use Rattle.datapath.specs.Clauses.{entry_cpu}
use Rattle.exec_spec.specs.Operands.{ModeKind, absolute, offset, indirect, constant, mode_kind, Place, in_memory, in_register, literal}

abbrev pub is_constant : ModeKind → Bool
is_constant absolute = false
is_constant offset = false
is_constant indirect = false
is_constant constant = true

-- the place of an operand, by the address that the code found: 0 where there is none
abbrev pub general_at : ModeKind → Mode → ℕ → ℕ → Place
general_at k m v a = cond (is_constant k) (literal v) (in_memory m a)

abbrev pub place_at : Operand → ℕ → Place
place_at (General m v) a = general_at (mode_kind m) m v a
place_at (Register n) a = in_register (register_of n)

abbrev pub placed : Operand → Answer → Bank → Cache → Out Place
placed o x b q = giving (place_at o) x b q

-- what follows an answer: the rest with its value, or the exception with the machine as it then is
abbrev pub resumed : (ℕ → Program (Out Cpu)) → Answer → Bank → Cache → Program (Out Cpu)
resumed f (good v) b q = f v
resumed f (raised e) b q = ret (stop e (cpu b q))

-- the code did what comes before a rest f of the type K: p is the whole, k what is left once x, the last value, is known; x
-- may be an exception, and else the registers are as they were
abbrev pub Resumes : (K : Type 0) → ℕ → Lent Memory → Lent Journal → Lent Cache → Lent Bank → (K → ℕ → Program (Out Cpu)) → (Cpu → K → Program (Out Cpu)) → Type 0
Resumes K x m j q r k p =
    ((f : K) → Continues (resumed (k f) (answer_of x) r.exit.now q.exit.now) m j (p (entry_cpu q r) f))
    × unless_faulted x (unchanged r)
