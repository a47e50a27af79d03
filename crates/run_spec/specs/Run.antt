-- Runs of kinds 03 and 04: refusals, steps up to the stop, and the answer (document 01, "The board program and its frames").
-- Assumes nothing.
use Rattle.std.specs.Prelude.{ℕ, zero, suc, Bool, true, false, cond, not, ◌&&◌, length, leb}
use Rattle.isa.specs.Answers.{unimplemented_code}
use Rattle.memory.specs.Bytes.{Memory, whole_pages, memory_size}
use Rattle.access_spec.specs.Access.{Response}
use Rattle.access_spec.specs.Program.{Program, ret, interpret, plain}
use Rattle.machine.specs.Registers.{psw, good_bank, register_refused}
use Rattle.machine.specs.Status.{Cpu, reg, is_user, is_virtual}
use Rattle.datapath.specs.Parts.{Out, ok, stop, ◌>>=◌}
use Rattle.exec_spec.specs.declared.Monadic.{Monadic}
use Rattle.exec_spec.specs.declared.Monadic.TheVariants as monadic
use Rattle.exec_spec.specs.Execute.{Normal, two_operands, one_operand, no_operand, normal, execute, Traced, traced}
use Rattle.step_spec.specs.Events.{Due, none, due, due_of, looked, event_code}
use Rattle.step_spec.specs.Step.{Dispatch, to_instruction, to_vector, fetch_instruction, traces_at, trace_falls, Stepped, stepped, step, timed, holds_stack}

-- a machine with its lent memory
pub record Board : Type 0 where
  pub cpu : Cpu
  pub memory : Memory

abbrev pub board : Cpu → Memory → Board
board c m = record { cpu = c; memory = m }

-- what one turn of a run does: a step, or a stop with its code
pub data Turn : Type 0 where
  goes : Board → Turn
  ends : ℕ → ℕ → Board → Turn

-- stops: 00 budget spent, 01 refused, 02 event due
abbrev pub budget_spent : ℕ
budget_spent = 0

abbrev pub refused : ℕ
refused = 1

abbrev pub event_due : ℕ
event_due = 2

-- refusal 4, "lost stack": the step leaves nothing
abbrev pub stack_range : ℕ
stack_range = 4

abbrev pub if_stack_held : Bool → Board → Turn → Turn
if_stack_held held s t = cond held t (ends refused stack_range s)

-- ---- kind 03: events are taken

abbrev pub after_step : Board → Response Memory Stepped → Turn
after_step s g = if_stack_held (holds_stack g.out.cpu) s (goes (board (timed s.cpu g.out) g.world))

unfoldable pub turn : ℕ → Board → Turn
turn level s = after_step s (interpret plain (step level s.cpu) s.memory)

-- ---- kind 04: confined, before the first event sequence

-- document 01: "20 KCALL, 21 unimplemented; a KCALL or unimplemented instruction has only been fetched"
pub data ConfinedActed : Type 0 where
  carried_out : Traced → Cpu → ConfinedActed
  fetched : ℕ → ConfinedActed

abbrev pub kcall_code : ℕ
kcall_code = 0x20

abbrev pub is_kcall : Normal → Bool
is_kcall (two_operands w t s d) = false
is_kcall (one_operand o m v) = kcalls o
  where
    kcalls : Monadic → Bool
    kcalls monadic.Kcall = true
    kcalls monadic.Call = false
    kcalls monadic.Return = false
    kcalls monadic.Jmp = false
    kcalls monadic.JmpFalse = false
    kcalls monadic.JmpTrue = false
    kcalls monadic.Catch = false
    kcalls monadic.Enter = false
    kcalls monadic.Ldraa = false
    kcalls monadic.Flush = false
    kcalls monadic.Popn = false
is_kcall (no_operand o) = false

unfoldable pub act_confined : Cpu → Dispatch → Program (Out ConfinedActed)
act_confined c (to_instruction i n) =
    cond (is_kcall (normal i)) (ret (ok (fetched kcall_code))) (execute c i n >>= (λ d. ret (ok (carried_out (traced (normal i)) d))))
act_confined c (to_vector v) = ret (ok (fetched unimplemented_code))

unfoldable pub confined_attempt : Cpu → Program (Out ConfinedActed)
confined_attempt c = do
  m ← fetch_instruction c
  act_confined c m

abbrev pub after_attempt : Board → Cpu → Out ConfinedActed → Memory → Turn
after_attempt s c (ok (carried_out t d)) m =
    if_stack_held (holds_stack d) s (goes (board (timed s.cpu (stepped (trace_falls (traces_at (reg c psw) t) d) true)) m))
after_attempt s c (ok (fetched code)) m = if_stack_held (holds_stack c) s (ends event_due code (board c m))
after_attempt s c (stop e d) m = if_stack_held (holds_stack d) s (ends event_due e (board d m))

abbrev pub attempt_turn : Board → Cpu → Response Memory (Out ConfinedActed) → Turn
attempt_turn s c g = after_attempt s c g.out g.world

abbrev pub confined_for : Due → Board → Cpu → Turn
confined_for none s c = attempt_turn s c (interpret plain (confined_attempt c) s.memory)
confined_for (due e) s c = ends event_due (event_code e) (board c s.memory)

unfoldable pub confined_turn : ℕ → Board → Turn
confined_turn level s = confined_for (due_of level (looked level s.cpu).bank) s (looked level s.cpu)

-- ---- a run

-- what an 83 line carries, and the board that is left
pub record RunResult : Type 0 where
  pub steps : ℕ
  pub stop : ℕ
  pub code : ℕ
  pub left : Board

abbrev pub run_result : ℕ → ℕ → ℕ → Board → RunResult
run_result n reason code s = record { steps = n; stop = reason; code = code; left = s }

abbrev pub going : ℕ → (Board → RunResult) → Turn → RunResult
going n go (goes s) = go s
going n go (ends reason code s) = run_result n reason code s

-- n steps are done; the budget is looked at before any event
unfoldable pub advance : (Board → Turn) → ℕ → ℕ → Board → RunResult
advance t n zero s = run_result n budget_spent 0 s
advance t n (suc budget) s = going n (λ u. advance t (suc n) budget u) (t s)

-- refusals 1, 2, 3 and 9 in this order; 0 is none
abbrev pub level_refused : ℕ
level_refused = 3

abbrev pub level_not_user : ℕ
level_not_user = 9

unfoldable pub refusal : Bool → ℕ → Board → ℕ
refusal confined level s =
    cond (not (whole_pages (length s.memory))) memory_size
    (cond (not (good_bank s.cpu.bank)) register_refused
    (cond (not (leb level 7)) level_refused
    (cond (confined && not (is_user s.cpu.bank && is_virtual s.cpu.bank)) level_not_user 0)))

abbrev pub turn_of : Bool → ℕ → Board → Turn
turn_of true level s = confined_turn level s
turn_of false level s = turn level s

abbrev pub unless_refused : ℕ → RunResult → Board → RunResult
unless_refused zero e s = e
unless_refused (suc r) e s = run_result 0 refused (suc r) s

unfoldable pub run : Bool → ℕ → ℕ → Board → RunResult
run confined budget level s = unless_refused (refusal confined level s) (advance (turn_of confined level) 0 budget s) s
