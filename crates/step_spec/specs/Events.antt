-- What a look before a step finds due (1.11.2, 1.11.5), and the sequence that takes it.
-- Assumes nothing.
use Rattle.std.specs.Prelude.{ℕ, ◌+◌, ◌*◌, Bool, cond, not, ◌&&◌, eqb, ltb, leb}
use Rattle.word.specs.Fields.{field_of}
use Rattle.access_spec.specs.Program.{Program}
use Rattle.machine.specs.Registers.{Bank, word, psw, trace_due, timer1_due, timer2_due, nmi_taken}
use Rattle.machine.specs.Status.{Cpu, with}
use Rattle.datapath.specs.Parts.{Out}
use Rattle.exec_spec.specs.EventFrames.{interrupt_sequence, exception_sequence, exception_vector}
use Rattle.memory.specs.Exceptions.{trace_exception}
use Rattle.machine.specs.Bits.{priority_low, priority_bits}

-- an event between two steps: an interrupt by its level, a timer's overflow, a trace
pub data Event : Type 0 where
  interrupt : ℕ → Event
  timer1 : Event
  timer2 : Event
  trace : Event

pub data Due : Type 0 where
  none : Due
  due : Event → Due

-- "Interrupts are accepted when the requesting device level is less than interrupt priority level or equal to 0"
abbrev pub priority : Bank → ℕ
priority b = field_of (word b psw) priority_low priority_bits

abbrev pub is_pending : Bank → ℕ → Bool
is_pending b k = eqb (word b k) 1

-- an external level 1 goes before Timer1, Timer1 before Timer2 (Table 1-2), interrupts before a trace (1.11.5); input 0,
-- once taken, waits for a look that finds another level
abbrev pub due_of : ℕ → Bank → Due
due_of level b =
    cond (eqb level 0 && not (is_pending b nmi_taken)) (due (interrupt 0))
    (cond (eqb level 1 && ltb 1 (priority b)) (due (interrupt 1))
    (cond (is_pending b timer1_due && ltb 1 (priority b)) (due timer1)
    (cond (is_pending b timer2_due && ltb 1 (priority b)) (due timer2)
    (cond (leb 2 level && leb level 6 && ltb level (priority b)) (due (interrupt level))
    (cond (is_pending b trace_due) (due trace) none)))))

-- a look that finds another level ends the wait of input 0
abbrev pub looked : ℕ → Cpu → Cpu
looked level c = cond (eqb level 0) c (with c nmi_taken 0)

-- document 01: "10 to 16 interrupt level 0 to 6, 17 and 18 timers", and the trace by its exception
abbrev pub event_code : Event → ℕ
event_code (interrupt n) = 0x10 + n
event_code timer1 = 0x17
event_code timer2 = 0x18
event_code trace = trace_exception

-- what is taken is no longer due, and input 0 waits
abbrev pub taken_of : Event → Cpu → Cpu
taken_of (interrupt n) c = cond (eqb n 0) (with c nmi_taken 1) c
taken_of timer1 c = with c timer1_due 0
taken_of timer2 c = with c timer2_due 0
taken_of trace c = with c trace_due 0

-- Table 1-14: where the vector is
abbrev pub vector_of : Event → ℕ
vector_of (interrupt n) = 16 + 4 * n
vector_of timer1 = 44
vector_of timer2 = 48
vector_of trace = exception_vector

unfoldable pub take : Cpu → Event → Program (Out Cpu)
take c (interrupt n) = interrupt_sequence (taken_of (interrupt n) c) (vector_of (interrupt n))
take c timer1 = interrupt_sequence (taken_of timer1 c) (vector_of timer1)
take c timer2 = interrupt_sequence (taken_of timer2 c) (vector_of timer2)
take c trace = exception_sequence (taken_of trace c) trace_exception
