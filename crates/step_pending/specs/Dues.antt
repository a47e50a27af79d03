-- What is due, by document 01's number, and when nothing can be.
-- Assumes nothing.
use Rattle.std.specs.Prelude.{ℕ, ◌-◌, Bool, true, false, cond, not, ◌&&◌, eqb, ltb}
use Rattle.machine.specs.Registers.{Bank, trace_due, timer1_due, timer2_due}
use Rattle.step_spec.specs.Events.{Event, interrupt, timer1, timer2, trace, Due, none, due, is_pending, event_code}

-- the number of what is due; 0 is nothing
abbrev pub due_code : Due → ℕ
due_code none = 0
due_code (due e) = event_code e

-- what a number stands for
abbrev pub event_from : ℕ → Event
event_from k = cond (eqb k 0x2) trace (cond (eqb k 0x17) timer1 (cond (eqb k 0x18) timer2 (interrupt (k - 0x10))))

abbrev pub due_from : ℕ → Due
due_from k = cond (eqb k 0) none (due (event_from k))

-- no interrupt is asked for, and no timer or trace is due
abbrev pub nothing_due : ℕ → Bank → Bool
nothing_due level b = ltb 6 level && not (is_pending b timer1_due) && not (is_pending b timer2_due) && not (is_pending b trace_due)

abbrev pub is_trace : Event → Bool
is_trace (interrupt n) = false
is_trace timer1 = false
is_trace timer2 = false
is_trace trace = true
