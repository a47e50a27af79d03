-- Both timers (Table 1-2, 1.5.11, 1.5.12), counted after each step by the CONFIG and the level it began with. A clock is one step.
-- Assumes nothing.
use Rattle.std.specs.Prelude.{ℕ, Bool, cond, not, ◌&&◌, ◌||◌, eqb}
use Rattle.word.specs.Sums.{plus_of}
use Rattle.word.specs.Fields.{bit_of, field_of}
use Rattle.machine.specs.Registers.{timer1, timer2, timer1_due, timer2_due}
use Rattle.machine.specs.Status.{Cpu, reg, with}
use Rattle.machine.specs.Bits.{timer1_instructions_bit, timer1_kernel_bit, timer1_interrupt_bit, timer2_event_low, timer2_event_bits, timer2_kernel_bit, timer2_interrupt_bit}

-- "If 1, the timer only increments in kernel mode"
abbrev pub counts1 : ℕ → Bool → Bool → Bool
counts1 config kernel completed = (not (bit_of config timer1_kernel_bit) || kernel) && (not (bit_of config timer1_instructions_bit) || completed)

-- bits 29:25 select the event; one that is not in the table never counts
abbrev pub counts2 : ℕ → Bool → Bool → Bool
counts2 config kernel completed =
    (not (bit_of config timer2_kernel_bit) || kernel) && (eqb (field_of config timer2_event_low timer2_event_bits) 0 || (eqb (field_of config timer2_event_low timer2_event_bits) 1 && completed))

-- one more, and due if it goes from 0xFFFFFFFF to 0 with its interrupt on
abbrev pub ticked : Cpu → ℕ → ℕ → Bool → Cpu
ticked c k due on = overflowed (eqb (plus_of (reg c k) 1) 0 && on) (with c k (plus_of (reg c k) 1))
  where
    overflowed : Bool → Cpu → Cpu
    overflowed b d = cond b (with d due 1) d

abbrev pub first_counted : ℕ → Bool → Bool → Cpu → Cpu
first_counted config kernel completed c = cond (counts1 config kernel completed) (ticked c timer1 timer1_due (bit_of config timer1_interrupt_bit)) c

abbrev pub second_counted : ℕ → Bool → Bool → Cpu → Cpu
second_counted config kernel completed c = cond (counts2 config kernel completed) (ticked c timer2 timer2_due (bit_of config timer2_interrupt_bit)) c

unfoldable pub counted : ℕ → Bool → Bool → Cpu → Cpu
counted config kernel completed c = second_counted config kernel completed (first_counted config kernel completed c)
