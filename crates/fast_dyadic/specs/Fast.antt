-- What the fast way says: parts that give a value, and what is left of an instruction once its source is read.
-- Assumes nothing.
use Rattle.std.specs.Prelude.{ℕ, ◌≡◌, Bool, true, false}
use Rattle.isa.specs.declared.Mode.{Mode}
use Rattle.isa.specs.declared.Mode.TheVariants.{AbsoluteByte, AbsoluteUbyte, AbsoluteHalf, AbsoluteUhalf, StackByte, StackUbyte, StackHalf, StackUhalf, IndirectByte, IndirectUbyte, IndirectHalf, IndirectUhalf, AbsoluteWord, StackWord, IndirectWord, Immediate}
use Rattle.isa.specs.declared.MonadicMode.{MonadicMode}
use Rattle.isa.specs.declared.MonadicMode.TheVariants.{WordAbsolute, WordStack, WordIndirect, WordImmediate, FlowAbsoluteIndirect, FlowStackIndirect, FlowRelative, FlowAbsolute}
use Rattle.isa.specs.declared.Operand.{Operand}
use Rattle.isa.specs.declared.Wide.{Wide}
use Rattle.memory.specs.Bytes.{Memory}
use Rattle.access_spec.specs.Access.{response}
use Rattle.access_spec.specs.Program.{Program, interpret, plain}
use Rattle.machine.specs.Status.{Cpu}
use Rattle.datapath.specs.Parts.{Out, ok, done, ◌>>=◌}
use Rattle.exec_spec.specs.declared.Operation.{Operation}
use Rattle.exec_spec.specs.declared.Relation.{Relation}
use Rattle.exec_spec.specs.declared.Task.{Task}
use Rattle.exec_spec.specs.declared.Task.TheVariants.{Compute, Accumulate, Interlock, Compare, TaggedAdd, TaggedSub, Move, MoveAddress, MoveWords}
use Rattle.exec_spec.specs.Alu.{related, with_flag}
use Rattle.exec_spec.specs.Operands.{Place, locate, read_place}
use Rattle.exec_spec.specs.Dyadic.{compute_with, accumulate_with, move_to}

-- a part gives a, and leaves the memory n
abbrev pub gives : {A : Type 0} → Program (Out A) → Memory → A → Memory → Type 0
gives p m a n = interpret plain p m ≡ response (ok a) n

-- the mode of a word at a stack offset
abbrev pub is_stack_word : Mode → Bool
is_stack_word AbsoluteByte = false
is_stack_word AbsoluteUbyte = false
is_stack_word AbsoluteHalf = false
is_stack_word AbsoluteUhalf = false
is_stack_word StackByte = false
is_stack_word StackUbyte = false
is_stack_word StackHalf = false
is_stack_word StackUhalf = false
is_stack_word IndirectByte = false
is_stack_word IndirectUbyte = false
is_stack_word IndirectHalf = false
is_stack_word IndirectUhalf = false
is_stack_word AbsoluteWord = false
is_stack_word StackWord = true
is_stack_word IndirectWord = false
is_stack_word Immediate = false

-- the mode of a target that counts from PC
abbrev pub is_relative : MonadicMode → Bool
is_relative WordAbsolute = false
is_relative WordStack = false
is_relative WordIndirect = false
is_relative WordImmediate = false
is_relative FlowAbsoluteIndirect = false
is_relative FlowStackIndirect = false
is_relative FlowRelative = true
is_relative FlowAbsolute = false

-- the tasks that read their source first and end with one write
abbrev pub is_fast : Task → Bool
is_fast (Compute op) = true
is_fast (Accumulate op) = true
is_fast (Interlock op) = false
is_fast (Compare r) = true
is_fast TaggedAdd = false
is_fast TaggedSub = false
is_fast Move = true
is_fast MoveAddress = false
is_fast MoveWords = false

-- what is left of one with the source x and a destination at the place p
abbrev pub compute_at : Cpu → Operation → Place → ℕ → Program (Out Cpu)
compute_at c op p x = do
  y ← read_place c p
  compute_with c op p x y

abbrev pub accumulate_at : Cpu → Operation → Place → ℕ → Program (Out Cpu)
accumulate_at c op p x = do
  y ← read_place c p
  accumulate_with c op x y

abbrev pub compare_at : Cpu → Relation → Place → ℕ → Program (Out Cpu)
compare_at c r p x = do
  y ← read_place c p
  done (with_flag c (related r x y))

-- and with a destination that has yet to be found
abbrev pub after_source : Cpu → Wide → Task → Operand → ℕ → Program (Out Cpu)
after_source c w (Compute op) d x = do
  p ← locate c w d
  compute_at c op p x
after_source c w (Accumulate op) d x = do
  p ← locate c w d
  accumulate_at c op p x
after_source c w (Interlock op) d x = done c
after_source c w (Compare r) d x = do
  p ← locate c w d
  compare_at c r p x
after_source c w TaggedAdd d x = done c
after_source c w TaggedSub d x = done c
after_source c w Move d x = move_to c w d x
after_source c w MoveAddress d x = done c
after_source c w MoveWords d x = done c
