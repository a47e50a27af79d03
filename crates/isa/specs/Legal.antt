-- Which operands an instruction may have: sections 1.6, 1.7, 1.11.4 and the notes of section 3.3, as the decoder judges them.
use Rattle.std.specs.Prelude.{ℕ, Bool, true, false, not, ◌&&◌, ◌||◌, leb}
use Rattle.isa.specs.declared.Mode.{Mode}
use Rattle.isa.specs.declared.Mode.TheVariants.{AbsoluteByte, AbsoluteUbyte, AbsoluteHalf, AbsoluteUhalf, StackByte, StackUbyte, StackHalf, StackUhalf, IndirectByte, IndirectUbyte, IndirectHalf, IndirectUhalf, AbsoluteWord, StackWord, IndirectWord, Immediate}
use Rattle.isa.specs.declared.Operand.{Operand}
use Rattle.isa.specs.declared.Operand.TheVariants.{General, Register}
use Rattle.isa.specs.declared.Rule.{Rule}
use Rattle.isa.specs.declared.Rule.TheVariants.{OneRegister, AnyTwo, Address, Multiple}
use Rattle.isa.specs.declared.MonadicMode.{MonadicMode}
use Rattle.isa.specs.declared.MonadicMode.TheVariants.{WordAbsolute, WordStack, WordIndirect, WordImmediate, FlowAbsoluteIndirect, FlowStackIndirect, FlowRelative, FlowAbsolute}
use Rattle.isa.specs.declared.MonadicRule.{MonadicRule}
use Rattle.isa.specs.declared.MonadicRule.TheVariants as rule

-- a word in memory: it has an address
abbrev pub word_in_memory : Mode → Bool
word_in_memory AbsoluteByte = false
word_in_memory AbsoluteUbyte = false
word_in_memory AbsoluteHalf = false
word_in_memory AbsoluteUhalf = false
word_in_memory StackByte = false
word_in_memory StackUbyte = false
word_in_memory StackHalf = false
word_in_memory StackUhalf = false
word_in_memory IndirectByte = false
word_in_memory IndirectUbyte = false
word_in_memory IndirectHalf = false
word_in_memory IndirectUhalf = false
word_in_memory AbsoluteWord = true
word_in_memory StackWord = true
word_in_memory IndirectWord = true
word_in_memory Immediate = false

abbrev pub constant : Mode → Bool
constant AbsoluteByte = false
constant AbsoluteUbyte = false
constant AbsoluteHalf = false
constant AbsoluteUhalf = false
constant StackByte = false
constant StackUbyte = false
constant StackHalf = false
constant StackUhalf = false
constant IndirectByte = false
constant IndirectUbyte = false
constant IndirectHalf = false
constant IndirectUhalf = false
constant AbsoluteWord = false
constant StackWord = false
constant IndirectWord = false
constant Immediate = true

-- DQM: "Double-word data size is encoded in the destination mode field as 0x0, 0x4, or 0x8"
abbrev pub double_word : Mode → Bool
double_word AbsoluteByte = true
double_word AbsoluteUbyte = false
double_word AbsoluteHalf = false
double_word AbsoluteUhalf = false
double_word StackByte = true
double_word StackUbyte = false
double_word StackHalf = false
double_word StackUhalf = false
double_word IndirectByte = true
double_word IndirectUbyte = false
double_word IndirectHalf = false
double_word IndirectUhalf = false
double_word AbsoluteWord = false
double_word StackWord = false
double_word IndirectWord = false
double_word Immediate = false

abbrev pub is_register : Operand → Bool
is_register (General m v) = false
is_register (Register n) = true

-- a test of the mode that no register meets
abbrev pub of_mode : (Mode → Bool) → Operand → Bool
of_mode f (General m v) = f m
of_mode f (Register n) = false

-- 1.7: "At most, one register may be read per instruction"; MOV does not read its destination; MOVA: a word in memory,
-- "An immediate source operand as well as a register source or destination" is illegal; DQM: word modes, its own destinations
abbrev pub legal_of : Rule → Operand → Operand → Bool
legal_of OneRegister s d = not (is_register s && is_register d)
legal_of AnyTwo s d = true
legal_of Address s d = of_mode word_in_memory s && not (is_register d)
legal_of Multiple s d = of_mode (λ m. word_in_memory m || constant m) s && of_mode (λ m. word_in_memory m || double_word m) d

-- a stack offset of a monadic
abbrev pub is_stack : MonadicMode → Bool
is_stack WordAbsolute = false
is_stack WordStack = true
is_stack WordIndirect = false
is_stack WordImmediate = false
is_stack FlowAbsoluteIndirect = false
is_stack FlowStackIndirect = false
is_stack FlowRelative = false
is_stack FlowAbsolute = false

abbrev pub negative : ℕ → Bool
negative v = leb 0x8000_0000 v

-- RETURN and POPN: negative offsets are illegal; ENTER: "only negative stack offsets are legal"
abbrev pub monadic_legal_of : MonadicRule → MonadicMode → ℕ → Bool
monadic_legal_of rule.Word m v = true
monadic_legal_of rule.Flow m v = true
monadic_legal_of rule.Jump m v = true
monadic_legal_of rule.Stack m v = not (negative v)
monadic_legal_of rule.Enter m v = not (is_stack m) || negative v
