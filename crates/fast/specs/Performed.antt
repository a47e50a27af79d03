-- A text in memory, and an instruction performed where no access to memory faults or sets a bit.
-- Assumes nothing.
use Rattle.std.specs.Prelude.{ℕ, zero, suc, ◌+◌, ◌%◌, ◌^◌, ◌≡◌, true, false, List, [], ◌∷◌}
use Rattle.isa.specs.declared.Instruction.{Instruction}
use Rattle.isa.specs.declared.Text.{Text}
use Rattle.isa.specs.Lengths.{following}
use Rattle.isa.specs.Decode.{text_of}
use Rattle.memory.specs.Bytes.{Memory, number}
use Rattle.word.specs.Fields.{bit_of}
use Rattle.machine.specs.Registers.{Bank, word, psw, sp, msp, nmi_taken, stack_held}
use Rattle.machine.specs.Status.{Cpu}
use Rattle.machine.specs.Bits.{trace_instruction_bit, trace_block_bit}
use Rattle.exec_spec.specs.Execute.{normal, execute_normal, execute}
use Rattle.step_spec.specs.Events.{none, due_of}
use Rattle.step_spec.specs.Step.{to_instruction, fetch_instruction, holds_stack}
use Rattle.run_spec.specs.Run.{is_kcall}
use Rattle.fast_decode.specs.declared.Plan.{Plan}
use Rattle.fast_decode.specs.Plans.{is_plan, normal_of, plan_length}
use Rattle.fast_dyadic.specs.Fast.{gives}

abbrev pub parcel_at : Memory → ℕ → ℕ
parcel_at m k = number 2 m k % 2 ^ 16

abbrev pub parcels_from : Memory → ℕ → ℕ → List ℕ
parcels_from m k zero = []
parcels_from m k (suc n) = parcel_at m k ∷ parcels_from m (k + 2) n

-- the text of an instruction without a prefix
abbrev pub text_at : Memory → ℕ → Text
text_at m k = text_of (parcel_at m k ∷ parcels_from m (k + 2) (following (parcel_at m k)))

-- what an instruction of l parcels did: it is no KCALL, and it keeps the stack
pub record InstructionDone (i : Instruction) (l : ℕ) (c : Cpu) (m : Memory) (d : Cpu) (n : Memory) : Type 0 where
  pub executed : gives (execute c i l) m d n
  pub free : is_kcall (normal i) ≡ false
  pub held : holds_stack c ≡ true → holds_stack d ≡ true

-- a plan performed: it is one, and no KCALL, and it keeps the stack
pub record Executed (p : Plan) (c : Cpu) (m : Memory) (d : Cpu) (k : Memory) : Type 0 where
  pub planned : is_plan p ≡ true
  pub executed : gives (execute_normal c (plan_length p) (normal_of p)) m d k
  pub free : is_kcall (normal_of p) ≡ false
  pub held : holds_stack c ≡ true → holds_stack d ≡ true

-- the instruction at PC
pub record Performed (c : Cpu) (m : Memory) (d : Cpu) (n : Memory) : Type 0 where
  pub instruction : Instruction
  pub parcels : ℕ
  pub fetched : gives (fetch_instruction c) m (to_instruction instruction parcels) m
  pub instruction_done : InstructionDone instruction parcels c m d n

-- a look at the interrupt input changes nothing and finds nothing due, no instruction is traced, and the stack is held
pub record NoEventPending (level : ℕ) (b : Bank) : Type 0 where
  pub asked : level ≡ 0 → ⊥
  pub unmarked : word b nmi_taken ≡ 0
  pub idle : due_of level b ≡ none
  pub untraced : bit_of (word b psw) trace_instruction_bit ≡ false
  pub unjumped : bit_of (word b psw) trace_block_bit ≡ false
  pub held : stack_held (word b sp) (word b msp) ≡ true
