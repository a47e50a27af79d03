-- One step as one program: an event sequence, or fetch, instruction and, at a fault, its exception sequence.
-- Assumes nothing.
use Rattle.std.specs.Prelude.{ℕ, Bool, true, false, cond, not, ◌||◌, eqb, Ok, Err}
use Rattle.word.specs.Fields.{bit_of}
use Rattle.isa.specs.declared.Instruction.{Instruction}
use Rattle.isa.specs.declared.Undecoded.TheVariants.{Illegal, Unimplemented, Truncated}
use Rattle.isa.specs.Decode.{decode_of}
use Rattle.access_spec.specs.Program.{Program, ret, after}
use Rattle.machine.specs.Registers.{config, psw, trace_due, sp, msp, stack_held}
use Rattle.machine.specs.Status.{Cpu, reg, with, is_user}
use Rattle.datapath.specs.Parts.{Out, ok, stop, done, resets, ◌>>=◌}
use Rattle.datapath.specs.Text.{fetch_text}
use Rattle.exec_spec.specs.EventFrames.{exception_sequence, unimplemented_sequence, reset}
use Rattle.exec_spec.specs.Execute.{normal, execute, Traced, always, at_jumps, never, traced}
use Rattle.step_spec.specs.Events.{Event, Due, none, due, due_of, looked, take}
use Rattle.step_spec.specs.Timers.{counted}
use Rattle.memory.specs.Exceptions.{illegal_instruction}
use Rattle.machine.specs.Bits.{trace_instruction_bit, trace_block_bit}
use Rattle.isa.specs.Answers.{Decoded}

-- ---- what the text at PC is

-- an instruction with its length in parcels, or the offset of a vector
pub data Dispatch : Type 0 where
  to_instruction : Instruction → ℕ → Dispatch
  to_vector : ℕ → Dispatch

abbrev pub dispatch : Cpu → Decoded → Out Dispatch
dispatch c (Ok (i, n)) = ok (to_instruction i n)
dispatch c (Err Illegal) = stop illegal_instruction c
dispatch c (Err (Unimplemented v)) = ok (to_vector v)
dispatch c (Err Truncated) = stop illegal_instruction c

unfoldable pub fetch_instruction : Cpu → Program (Out Dispatch)
fetch_instruction c = do
  t ← fetch_text c
  ret (dispatch c (decode_of t))

-- ---- what became of it

pub data Acted : Type 0 where
  finished : Traced → Cpu → Acted
  sequenced : Cpu → Acted

unfoldable pub act : Cpu → Dispatch → Program (Out Acted)
act c (to_instruction i n) = do
  d ← execute c i n
  done (finished (traced (normal i)) d)
act c (to_vector v) = do
  d ← unimplemented_sequence c v
  done (sequenced d)

unfoldable pub attempt : Cpu → Program (Out Acted)
attempt c = do
  m ← fetch_instruction c
  act c m

-- Table 1-8: bit 7 traces every instruction, bit 8 those that may jump; judged by the PSW it began with
abbrev pub traces_at : ℕ → Traced → Bool
traces_at p always = bit_of p trace_instruction_bit
traces_at p at_jumps = bit_of p trace_instruction_bit || bit_of p trace_block_bit
traces_at p never = false

abbrev pub trace_falls : Bool → Cpu → Cpu
trace_falls b c = cond b (with c trace_due 1) c

-- ---- the step

-- the machine after it, and whether an instruction completed
pub record Stepped : Type 0 where
  pub cpu : Cpu
  pub completed : Bool

abbrev pub stepped : Cpu → Bool → Stepped
stepped c b = record { cpu = c; completed = b }

-- a sequence that meets a fault on its stack or vector resets
abbrev pub settled : Out Cpu → Cpu
settled (ok c) = c
settled (stop e c) = reset c

unfoldable pub event_step : Cpu → Event → Program Stepped
event_step c e = after (take c e) (λ o. ret (stepped (settled o) false))

unfoldable pub exception_step : Cpu → ℕ → Program Stepped
exception_step c e =
    cond (eqb e resets) (ret (stepped (reset c) false)) (after (exception_sequence c e) (λ o. ret (stepped (settled o) false)))

unfoldable pub finish : ℕ → Out Acted → Program Stepped
finish p (ok (finished t c)) = ret (stepped (trace_falls (traces_at p t) c) true)
finish p (ok (sequenced c)) = ret (stepped (trace_falls (bit_of p trace_instruction_bit) c) false)
finish p (stop e c) = exception_step c e

unfoldable pub instruction_step : Cpu → Program Stepped
instruction_step c = after (attempt c) (finish (reg c psw))

abbrev pub step_for : Due → Cpu → Program Stepped
step_for none c = instruction_step c
step_for (due e) c = event_step c e

unfoldable pub step : ℕ → Cpu → Program Stepped
step level c = step_for (due_of level (looked level c).bank) (looked level c)

-- the timers count by what the step began with
abbrev pub timed : Cpu → Stepped → Cpu
timed c s = counted (reg c config) (not (is_user c.bank)) s.completed s.cpu

-- number 4: the step would leave MSP outside SP to SP + 256
abbrev pub holds_stack : Cpu → Bool
holds_stack c = stack_held (reg c sp) (reg c msp)
