-- Operands of dyadics: where they are, how they are read and written (1.7, Tables 1-21, 1-22 and 1-24).
-- Assumes nothing.
use Rattle.std.specs.Prelude.{ℕ, ◌*◌, ◌/◌, ◌^◌, Bool, true, false, cond, ◌&&◌, ◌||◌, eqb}
use Rattle.word.specs.declared.Width.{Width}
use Rattle.word.specs.declared.Width.TheVariants.{Byte, Half, Word}
use Rattle.word.specs.Sums.{plus_of}
use Rattle.word.specs.Widths.{bits_of, sign_extend_of}
use Rattle.word.specs.Fields.{bit_of}
use Rattle.isa.specs.declared.Mode.{Mode}
use Rattle.isa.specs.declared.Mode.TheVariants.{AbsoluteByte, AbsoluteUbyte, AbsoluteHalf, AbsoluteUhalf, StackByte, StackUbyte, StackHalf, StackUhalf, IndirectByte, IndirectUbyte, IndirectHalf, IndirectUhalf, AbsoluteWord, StackWord, IndirectWord, Immediate}
use Rattle.isa.specs.declared.Operand.{Operand}
use Rattle.isa.specs.declared.Operand.TheVariants.{General, Register}
use Rattle.isa.specs.declared.Wide.{Wide}
use Rattle.isa.specs.declared.Wide.TheVariants.{Three, Five}
use Rattle.isa.specs.Legal.{is_register}
use Rattle.access_spec.specs.Program.{Program, ret}
use Rattle.machine.specs.Registers.{config, id, isp, pc, msp, shad, sp, bank_size, register_of, unreserved}
use Rattle.machine.specs.Status.{Cpu, reg, with, csp, is_user}
use Rattle.datapath.specs.Parts.{Out, stop, done, ◌>>=◌}
use Rattle.datapath.specs.Data.{read_data, write_data}
use Rattle.memory.specs.Exceptions.{privilege_violation, unimplemented_register}
use Rattle.machine.specs.Bits.{pc_extension_bit}

abbrev pub width_of : Mode → Width
width_of AbsoluteByte = Byte
width_of AbsoluteUbyte = Byte
width_of AbsoluteHalf = Half
width_of AbsoluteUhalf = Half
width_of StackByte = Byte
width_of StackUbyte = Byte
width_of StackHalf = Half
width_of StackUhalf = Half
width_of IndirectByte = Byte
width_of IndirectUbyte = Byte
width_of IndirectHalf = Half
width_of IndirectUhalf = Half
width_of AbsoluteWord = Word
width_of StackWord = Word
width_of IndirectWord = Word
width_of Immediate = Word

abbrev pub is_signed : Mode → Bool
is_signed AbsoluteByte = true
is_signed AbsoluteUbyte = false
is_signed AbsoluteHalf = true
is_signed AbsoluteUhalf = false
is_signed StackByte = true
is_signed StackUbyte = false
is_signed StackHalf = true
is_signed StackUhalf = false
is_signed IndirectByte = true
is_signed IndirectUbyte = false
is_signed IndirectHalf = true
is_signed IndirectUhalf = false
is_signed AbsoluteWord = false
is_signed StackWord = false
is_signed IndirectWord = false
is_signed Immediate = false

-- where a mode's operand is
pub data ModeKind : Type 0 where
  absolute offset indirect constant : ModeKind

abbrev pub mode_kind : Mode → ModeKind
mode_kind AbsoluteByte = absolute
mode_kind AbsoluteUbyte = absolute
mode_kind AbsoluteHalf = absolute
mode_kind AbsoluteUhalf = absolute
mode_kind StackByte = offset
mode_kind StackUbyte = offset
mode_kind StackHalf = offset
mode_kind StackUhalf = offset
mode_kind IndirectByte = indirect
mode_kind IndirectUbyte = indirect
mode_kind IndirectHalf = indirect
mode_kind IndirectUhalf = indirect
mode_kind AbsoluteWord = absolute
mode_kind StackWord = offset
mode_kind IndirectWord = indirect
mode_kind Immediate = constant

-- 1.2: "expanded to 32-bit through sign extension (if signed) or clearing high-order bits (if unsigned)"
abbrev pub expanded : Mode → ℕ → ℕ
expanded m x = cond (is_signed m) (sign_extend_of (bits_of (width_of m)) x) x

-- 1.6.2: a 16-bit absolute address, by the CONFIG PC extension bit; PC is the instruction's, or its prefix's
abbrev pub absolute_on : ℕ → ℕ → Wide → ℕ → ℕ
absolute_on config pc Three v = cond (bit_of config pc_extension_bit) (plus_of (pc / 2 ^ 29 * 2 ^ 29) v) v
absolute_on config pc Five v = v

abbrev pub absolute_address : Cpu → Wide → ℕ → ℕ
absolute_address c w v = absolute_on (reg c config) (reg c pc) w v

-- from the current stack pointer
abbrev pub stack_address : Cpu → ℕ → ℕ
stack_address c v = plus_of (reg c (csp c.bank)) v

-- an operand that was found: a mode's address in memory, a register's place in the bank, or a constant
pub data Place : Type 0 where
  in_memory : Mode → ℕ → Place
  in_register : ℕ → Place
  literal : ℕ → Place

-- an indirection word comes before its operand
unfoldable pub located : Cpu → Wide → ModeKind → Mode → ℕ → Program (Out Place)
located c w absolute m v = done (in_memory m (absolute_address c w v))
located c w offset m v = done (in_memory m (stack_address c v))
located c w indirect m v = do
  a ← read_data c Word (stack_address c v)
  done (in_memory m a)
located c w constant m v = done (literal v)

unfoldable pub locate : Cpu → Wide → Operand → Program (Out Place)
locate c w (General m v) = located c w (mode_kind m) m v
locate c w (Register n) = done (in_register (register_of n))

unfoldable pub read_place : Cpu → Place → Program (Out ℕ)
read_place c (in_memory m a) = do
  x ← read_data c (width_of m) a
  done (expanded m x)
read_place c (in_register k) = done (reg c k)
read_place c (literal v) = done v

unfoldable pub read_operand : Cpu → Wide → Operand → Program (Out ℕ)
read_operand c w o = do
  p ← locate c w o
  read_place c p

-- a stack pointer written by an instruction: SHAD follows the current one
abbrev pub shadowed : Cpu → ℕ → ℕ → Cpu
shadowed c k v = cond (eqb k (csp c.bank)) (with c shad v) c

-- a register written under a prefix: reserved bits stay 0, ID ignores it, SP sets MSP
unfoldable pub write_register : Cpu → ℕ → ℕ → Cpu
write_register c k v =
    cond (eqb k id) c
    (cond (eqb k sp) (shadowed (with (with c sp (unreserved sp v)) msp (unreserved sp v)) sp (unreserved sp v))
    (cond (eqb k isp) (shadowed (with c isp (unreserved isp v)) isp (unreserved isp v)) (with c k (unreserved k v))))

-- a result that goes to a constant goes nowhere
unfoldable pub write_place : Cpu → Place → ℕ → Program (Out Cpu)
write_place c (in_memory m a) v = write_data c (width_of m) a v
write_place c (in_register k) v = done (write_register c k v)
write_place c (literal x) v = done c

-- 1.4.3: the accumulator is the word above the one that the current stack pointer addresses
unfoldable pub write_accumulator : Cpu → ℕ → Program (Out Cpu)
write_accumulator c v = write_data c Word (stack_address c 4) v

-- HOUSE: "at user level any register operand under a CPU prefix, read or write, is 0x5"; then 0x6 where there is none
abbrev pub missing : Operand → Bool
missing (General m v) = false
missing (Register n) = eqb (register_of n) bank_size

unfoldable pub check_registers : Cpu → Operand → Operand → Program (Out Cpu)
check_registers c s d =
    cond (is_user c.bank && (is_register s || is_register d)) (ret (stop privilege_violation c))
    (cond (missing s || missing d) (ret (stop unimplemented_register c)) (done c))
