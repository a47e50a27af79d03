-- The encoder: the parcels of an instruction at a named length, or refusal 5 (section 3.3, with the bit places of section 1.6).
use Rattle.std.specs.Prelude.{ℕ, ◌+◌, ◌*◌, ◌/◌, ◌%◌, Bool, true, false, cond, not, ◌&&◌, ◌||◌, ltb, leb, eqb, Some, None}
use Rattle.isa.specs.declared.FieldMode.{FieldMode}
use Rattle.isa.specs.declared.FieldMode.TheVariants.{Absent, Imm5, Uimm5, Wai5, Stk5, Istk5, Imm10, Pcrel10, Stk8, Fill8}
use Rattle.isa.specs.declared.ShortListed.{ShortListed}
use Rattle.isa.specs.declared.ShortInstruction.{ShortInstruction}
use Rattle.isa.specs.declared.Mode.{Mode}
use Rattle.isa.specs.declared.Mode.TheVariants.{AbsoluteByte, AbsoluteUbyte, AbsoluteHalf, AbsoluteUhalf, StackByte, StackUbyte, StackHalf, StackUhalf, IndirectByte, IndirectUbyte, IndirectHalf, IndirectUhalf, AbsoluteWord, StackWord, IndirectWord, Immediate}
use Rattle.isa.specs.declared.Operand.{Operand}
use Rattle.isa.specs.declared.Operand.TheVariants.{General, Register}
use Rattle.isa.specs.declared.Wide.{Wide}
use Rattle.isa.specs.declared.Wide.TheVariants.{Three, Five}
use Rattle.isa.specs.declared.Operands.{Operands}
use Rattle.isa.specs.declared.Operands.TheVariants.{Gen, GenWritten, GenAddress, GenMoved}
use Rattle.isa.specs.declared.DyadicInstruction.{DyadicInstruction}
use Rattle.isa.specs.declared.MonadicMode.{MonadicMode}
use Rattle.isa.specs.declared.MonadicMode.TheVariants.{WordAbsolute, WordStack, WordIndirect, WordImmediate, FlowAbsoluteIndirect, FlowStackIndirect, FlowRelative, FlowAbsolute}
use Rattle.isa.specs.declared.Single.{Single}
use Rattle.isa.specs.declared.Single.TheVariants.{Word32, Flow32, Abs32, Stk32, EnterWord32}
use Rattle.isa.specs.declared.MonadicInstruction.{MonadicInstruction}
use Rattle.isa.specs.declared.Instruction.{Instruction}
use Rattle.isa.specs.declared.Instruction.TheVariants as instruction
use Rattle.isa.specs.declared.Text.{Text}
use Rattle.isa.specs.Lengths.{length_of}
use Rattle.word.specs.Widths.{sign_extend_of}
use Rattle.isa.specs.Fields.{field_value}
use Rattle.isa.specs.Legal.{is_register}
use Rattle.isa.specs.Encodings.{short_listed, dyadic_listed, monadic_listed}
use Rattle.isa.specs.Answers.{Encoded}

abbrev pub coded : Bool → Text → Encoded
coded true t = Some t
coded false t = None

abbrev pub text1 : ℕ → Text
text1 p = record { count = 1; p0 = p; p1 = 0; p2 = 0; p3 = 0; p4 = 0; p5 = 0 }

abbrev pub text3 : ℕ → ℕ → ℕ → Text
text3 p a b = record { count = 3; p0 = p; p1 = a; p2 = b; p3 = 0; p4 = 0; p5 = 0 }

abbrev pub text5 : ℕ → ℕ → ℕ → ℕ → ℕ → Text
text5 p a b c d = record { count = 5; p0 = p; p1 = a; p2 = b; p3 = c; p4 = d; p5 = 0 }

-- CPU: length 2, opcode 0x0B, subcode 0x0, before the instruction
abbrev pub with_prefix : Bool → Text → Text
with_prefix true t =
    record { count = t.count + 1; p0 = 0x0B * 1024; p1 = t.p0; p2 = t.p1; p3 = t.p2; p4 = t.p3; p5 = t.p4 }
with_prefix false t = t

-- ---- length 2

-- the field that a value would have
abbrev pub raw_field : FieldMode → ℕ → ℕ
raw_field Absent v = 0
raw_field Imm5 v = v % 32
raw_field Uimm5 v = v % 32
raw_field Wai5 v = v / 4 % 32
raw_field Stk5 v = v / 4 % 32
raw_field Istk5 v = v / 4 % 32
raw_field Imm10 v = v / 4 % 1024
raw_field Pcrel10 v = v / 2 % 1024
raw_field Stk8 v = v / 16 % 256
raw_field Fill8 v = v / 16 % 256

-- the field stands for the value: it is in the mode's range and a multiple of its scale
abbrev pub carries : FieldMode → ℕ → Bool
carries m v = eqb (field_value m (raw_field m v)) v

-- a source of five bits stands before a destination of five
abbrev pub source_place : FieldMode → ℕ → ℕ
source_place Absent f = 0
source_place Imm5 f = f * 32
source_place Uimm5 f = f * 32
source_place Wai5 f = f * 32
source_place Stk5 f = f * 32
source_place Istk5 f = f * 32
source_place Imm10 f = f
source_place Pcrel10 f = f
source_place Stk8 f = f
source_place Fill8 f = f

abbrev pub short_parcel : ShortListed → ℕ → ℕ → ℕ
short_parcel l u v = l.base + source_place l.source (raw_field l.source u) + raw_field l.destination v

abbrev pub short_coded : ShortListed → ℕ → ℕ → Encoded
short_coded l u v = coded (carries l.source u && carries l.destination v) (text1 (short_parcel l u v))

unfoldable pub encode_short : ShortInstruction → Encoded
encode_short i = short_coded (short_listed i.row) i.source i.destination

-- ---- lengths 6 and 10 with two operands

-- the number of a mode: byte, half-word and word modes of an absolute address, a stack offset and its indirection
abbrev pub mode_code : Mode → ℕ
mode_code AbsoluteByte = 0x0
mode_code AbsoluteUbyte = 0x1
mode_code AbsoluteHalf = 0x2
mode_code AbsoluteUhalf = 0x3
mode_code AbsoluteWord = 0xC
mode_code StackByte = 0x4
mode_code StackUbyte = 0x5
mode_code StackHalf = 0x6
mode_code StackUhalf = 0x7
mode_code StackWord = 0xD
mode_code IndirectByte = 0x8
mode_code IndirectUbyte = 0x9
mode_code IndirectHalf = 0xA
mode_code IndirectUhalf = 0xB
mode_code IndirectWord = 0xE
mode_code Immediate = 0xF

-- CPU: "All word-sized address modes remain the same, while mode 0x7 becomes the register addressing mode"
abbrev pub operand_code : Operand → ℕ
operand_code (General m v) = mode_code m
operand_code (Register n) = 0x7

abbrev pub has_mode : Bool → Operand → Bool
has_mode true (General m v) = leb 0xC (mode_code m)
has_mode true (Register n) = true
has_mode false (General m v) = true
has_mode false (Register n) = false

-- at length 6 an absolute address of 16 bits, or another value that 16 bits extend to; at length 10 any value
abbrev pub is_absolute : ℕ → Bool
is_absolute k = ltb k 0x4 || eqb k 0xC

abbrev pub fits16 : ℕ → ℕ → Bool
fits16 k v = cond (is_absolute k) (ltb v 65536) (eqb (sign_extend_of 16 (v % 65536)) v)

abbrev pub fits_gen : Wide → ℕ → ℕ → Bool
fits_gen Three k v = fits16 k v
fits_gen Five k v = true

abbrev pub fits : Wide → Operand → Bool
fits w (General m v) = fits_gen w (mode_code m) v
fits w (Register n) = ltb n 16

-- the modes >= 0xC but the immediate; DQM's 0x0, 0x4, 0x8 and 0xC, 0xD, 0xE
abbrev pub address_code : ℕ → Bool
address_code k = leb 0xC k && ltb k 0xF

abbrev pub moved_code : ℕ → Bool
moved_code k = eqb k 0x0 || eqb k 0x4 || eqb k 0x8 || address_code k

-- gen: at most one register is read; MOV's destination is only written; MOVA takes no register, and a word's address;
-- DQM takes no register, "Only word addressing modes are permitted for the source and the special modes for the destination"
abbrev pub admits : Operands → Operand → Operand → Bool
admits Gen s d = not (is_register s) || not (is_register d)
admits GenWritten s d = true
admits GenAddress s d = not (is_register s) && not (is_register d) && address_code (operand_code s)
admits GenMoved s d = not (is_register s) && not (is_register d) && leb 0xC (operand_code s) && moved_code (operand_code d)

abbrev pub operand_raw : Operand → ℕ
operand_raw (General m v) = v
operand_raw (Register n) = n

abbrev pub dyadic_text : Wide → ℕ → ℕ → ℕ → ℕ → ℕ → Text
dyadic_text Three o s d x y = text3 (0x8000 + o * 256 + s * 16 + d) (x % 65536) (y % 65536)
dyadic_text Five o s d x y = text5 (0xC000 + o * 256 + s * 16 + d) (x / 65536) (x % 65536) (y / 65536) (y % 65536)

-- what has to hold for a code to be there
abbrev pub dyadic_has_code : DyadicInstruction → Bool
dyadic_has_code i =
    has_mode i.prefix i.source && has_mode i.prefix i.destination
    && fits i.wide i.source && fits i.wide i.destination
    && admits (dyadic_listed i.row).operands i.source i.destination

unfoldable pub encode_dyadic : DyadicInstruction → Encoded
encode_dyadic i =
    coded (dyadic_has_code i)
    (with_prefix i.prefix
    (dyadic_text i.wide (dyadic_listed i.row).opcode
    (operand_code i.source) (operand_code i.destination)
    (operand_raw i.source) (operand_raw i.destination)))

-- ---- length 6 with one operand

abbrev pub monadic_code : MonadicMode → ℕ
monadic_code WordAbsolute = 0xC
monadic_code WordStack = 0xD
monadic_code WordIndirect = 0xE
monadic_code WordImmediate = 0xF
monadic_code FlowAbsoluteIndirect = 0xC
monadic_code FlowStackIndirect = 0xD
monadic_code FlowRelative = 0xE
monadic_code FlowAbsolute = 0xF

-- whether a mode is one of CALL's and JMP's
abbrev pub flow_mode : MonadicMode → Bool
flow_mode WordAbsolute = false
flow_mode WordStack = false
flow_mode WordIndirect = false
flow_mode WordImmediate = false
flow_mode FlowAbsoluteIndirect = true
flow_mode FlowStackIndirect = true
flow_mode FlowRelative = true
flow_mode FlowAbsolute = true

-- Table 3-2; abs32: "PC-relative or absolute"; stk32 with the notes of RETURN and POPN; word32 with the notes of ENTER
abbrev pub takes : Single → MonadicMode → ℕ → Bool
takes Word32 m v = not (flow_mode m)
takes Flow32 m v = flow_mode m
takes Abs32 m v = flow_mode m && leb 0xE (monadic_code m)
takes Stk32 m v = not (flow_mode m) && eqb (monadic_code m) 0xD && ltb v 0x8000_0000
takes EnterWord32 m v = not (flow_mode m) && (not (eqb (monadic_code m) 0xD) || not (ltb v 0x8000_0000))

unfoldable pub encode_monadic : MonadicInstruction → Encoded
encode_monadic i =
    coded (takes (monadic_listed i.row).operand i.mode i.value)
    (with_prefix i.prefix
    (text3 (0x8000 + monadic_code i.mode * 16 + (monadic_listed i.row).subcode) (i.value / 65536) (i.value % 65536)))

-- ---- an instruction at a length in parcels, the prefix counted

abbrev pub encode_any : Instruction → Encoded
encode_any (instruction.Short i) = encode_short i
encode_any (instruction.Dyadic i) = encode_dyadic i
encode_any (instruction.Monadic i) = encode_monadic i

-- request (g): "A form, prefix and length that disagree are given number 5 too by the encoder"
unfoldable pub encode_of : Instruction → ℕ → Encoded
encode_of i n = cond (eqb n (length_of i)) (encode_any i) None
