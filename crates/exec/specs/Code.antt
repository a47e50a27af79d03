-- An attempt at the instruction at PC, with or without its event sequence, and what the code's number says of it.
-- Assumes nothing.
use Rattle.std.specs.Prelude.{ℕ, Bool, true, false, cond, ltb}
use Rattle.memory.specs.Answers.{Answer, good, raised, answer_of}
use Rattle.memory.specs.Bytes.{Memory}
use Rattle.access_spec.specs.Program.{Program}
use Rattle.access_spec.specs.Journal.{Journal}
use Rattle.access_spec.specs.Clauses.{Lent, Interprets}
use Rattle.machine.specs.Registers.{Bank}
use Rattle.machine.specs.Cache.{Cache}
use Rattle.machine.specs.Status.{Cpu, cpu}
use Rattle.datapath.specs.Parts.{Out, ok, stop, done, ◌>>=◌}
use Rattle.datapath.specs.Clauses.{entry_cpu}
use Rattle.step_pending.specs.Traces.{traced_from}
use Rattle.step_spec.specs.Step.{Dispatch, Acted, finished, sequenced, act, fetch_instruction}
use Rattle.run_spec.specs.Run.{ConfinedActed, carried_out, fetched, act_confined}

-- ---- kinds 03 and 04 take the same attempt; a confined one stops at a KCALL or an unimplemented instruction

-- what it came to: an instruction or a sequence, or a confined stop's code
pub data Attempted : Type 0 where
  acted : Acted → Attempted
  only_fetched : ℕ → Attempted

abbrev pub of_confined : ConfinedActed → Attempted
of_confined (carried_out t c) = acted (finished t c)
of_confined (fetched n) = only_fetched n

unfoldable pub act_of : Bool → Cpu → Dispatch → Program (Out Attempted)
act_of true c m = do
  t ← act_confined c m
  done (of_confined t)
act_of false c m = do
  a ← act c m
  done (acted a)

unfoldable pub attempt_of : Bool → Cpu → Program (Out Attempted)
attempt_of confined c = do
  m ← fetch_instruction c
  act_of confined c m

-- ---- the code's answer: below 3 what tracing makes of the finished instruction, 3 a sequence, more a stop's code

abbrev pub acted_as : ℕ → Cpu → Acted
acted_as v c = cond (ltb v 3) (finished (traced_from v) c) (sequenced c)

abbrev pub attempted_as : ℕ → Cpu → Attempted
attempted_as v c = cond (ltb v 4) (acted (acted_as v c)) (only_fetched v)

-- a confined attempt takes no sequence
abbrev pub confined_as : ℕ → Cpu → ConfinedActed
confined_as v c = cond (ltb v 3) (carried_out (traced_from v) c) (fetched v)

-- an answer by one of these
abbrev pub out_by : {A : Type 0} → (ℕ → Cpu → A) → Answer → Bank → Cache → Out A
out_by f (good v) b q = ok (f v (cpu b q))
out_by f (raised e) b q = stop e (cpu b q)

abbrev pub attempted_out : Answer → Bank → Cache → Out Attempted
attempted_out x b q = out_by attempted_as x b q

abbrev pub acted_out : Answer → Bank → Cache → Out Acted
acted_out x b q = out_by acted_as x b q

abbrev pub confined_out : Answer → Bank → Cache → Out ConfinedActed
confined_out x b q = out_by confined_as x b q

-- ---- what contracts say of an attempt: x is what f comes to, and the machine is left as f leaves it, also by an exception
abbrev pub Attempts : ℕ → Lent Memory → Lent Journal → Lent Cache → Lent Bank → (Cpu → Program (Out Attempted)) → Type 0
Attempts x m j q r f = Interprets (attempted_out (answer_of x) r.exit.now q.exit.now) m j (f (entry_cpu q r))
