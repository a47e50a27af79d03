-- What the code's answers say of a turn and of a run.
-- Assumes nothing.
use Rattle.std.specs.Prelude.{ℕ, ◌/◌, ◌%◌, ◌^◌, true, false, cond, eqb}
use Rattle.memory.specs.Bytes.{Memory}
use Rattle.machine.specs.declared.Machine.{Machine}
use Rattle.machine.specs.Registers.{psw}
use Rattle.machine.specs.Status.{Cpu, reg}
use Rattle.machine.specs.Record.{cpu_of}
use Rattle.datapath.specs.Parts.{Out, ok, stop}
use Rattle.step_spec.specs.Step.{stepped, timed, traces_at, trace_falls}
use Rattle.run_spec.specs.Run.{Board, board, Turn, goes, ends, event_due, ConfinedActed, carried_out, fetched, RunResult, run_result, run}
use Rattle.run.specs.declared.running.Ran.{Ran}

-- 0 goes on; else 2 ^ 32 times the stop, and its code
abbrev pub turned : ℕ → Board → Turn
turned x s = cond (eqb x 0) (goes s) (ends (x / 2 ^ 32) (x % 2 ^ 32) s)

-- how a confined turn that began with b, its look with c, ends by what the attempt gave, if the stack holds
abbrev pub attempt_ended : Cpu → Cpu → Out ConfinedActed → Memory → Turn
attempt_ended b c (ok (carried_out t d)) m = goes (board (timed b (stepped (trace_falls (traces_at (reg c psw) t) d) true)) m)
attempt_ended b c (ok (fetched code)) m = ends event_due code (board c m)
attempt_ended b c (stop e d) m = ends event_due e (board d m)

-- a run's answer with the memory that it left
abbrev pub run_result_of : Ran → Memory → RunResult
run_result_of r m = run_result r.steps r.stop r.code (board (cpu_of r.machine) m)

-- one step, events taken: 0 or the refusal, and the board that it left
pub record StepResult : Type 0 where
  pub refusal : ℕ
  pub left : Board

abbrev pub step_result : ℕ → Board → StepResult
step_result r s = record { refusal = r; left = s }

abbrev pub step_result_of : ℕ → Machine → Memory → StepResult
step_result_of r c m = step_result r (board (cpu_of c) m)

-- a run of budget 1: its code is 0 where the step is done
abbrev pub one_step : ℕ → Board → StepResult
one_step level s = step_result (run false 1 level s).code (run false 1 level s).left
