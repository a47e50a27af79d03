-- The bits of PSW (Table 1-8) and of CONFIG (Table 1-2), by their numbers.
-- Assumes nothing.
use Rattle.std.specs.Prelude.{ℕ}

-- ---- PSW

abbrev pub flag_bit : ℕ
flag_bit = 4

abbrev pub carry_bit : ℕ
carry_bit = 5

abbrev pub overflow_bit : ℕ
overflow_bit = 6

abbrev pub trace_instruction_bit : ℕ
trace_instruction_bit = 7

abbrev pub trace_block_bit : ℕ
trace_block_bit = 8

abbrev pub sp_current_bit : ℕ
sp_current_bit = 9

abbrev pub user_level_bit : ℕ
user_level_bit = 10

abbrev pub guard_bit : ℕ
guard_bit = 11

-- the interrupt priority level: its lowest bit, and how many it has
abbrev pub priority_low : ℕ
priority_low = 12

abbrev pub priority_bits : ℕ
priority_bits = 3

abbrev pub user_little_bit : ℕ
user_little_bit = 15

abbrev pub virtual_bit : ℕ
virtual_bit = 16

-- ---- CONFIG

abbrev pub kernel_little_bit : ℕ
kernel_little_bit = 16

abbrev pub pc_extension_bit : ℕ
pc_extension_bit = 17

abbrev pub stack_cache_bit : ℕ
stack_cache_bit = 18

abbrev pub timer1_instructions_bit : ℕ
timer1_instructions_bit = 22

abbrev pub timer1_kernel_bit : ℕ
timer1_kernel_bit = 23

abbrev pub timer1_interrupt_bit : ℕ
timer1_interrupt_bit = 24

-- the event that Timer2 counts
abbrev pub timer2_event_low : ℕ
timer2_event_low = 25

abbrev pub timer2_event_bits : ℕ
timer2_event_bits = 5

abbrev pub timer2_kernel_bit : ℕ
timer2_kernel_bit = 30

abbrev pub timer2_interrupt_bit : ℕ
timer2_interrupt_bit = 31
