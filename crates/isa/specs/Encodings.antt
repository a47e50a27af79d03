-- The encodings lists of section 3.3, page by page, for the encoder: typed from those pages, not from Tables 1-15 to 1-24.
use Rattle.std.specs.Prelude.{ℕ, ◌+◌, ◌*◌}
use Rattle.isa.specs.declared.ShortRow.{ShortRow}
use Rattle.isa.specs.declared.ShortRow.TheVariants as short
use Rattle.isa.specs.declared.FieldMode.{FieldMode}
use Rattle.isa.specs.declared.FieldMode.TheVariants.{Absent, Imm5, Uimm5, Wai5, Stk5, Istk5, Imm10, Pcrel10, Stk8, Fill8}
use Rattle.isa.specs.declared.ShortListed.{ShortListed}
use Rattle.isa.specs.declared.DyadicRow.{DyadicRow}
use Rattle.isa.specs.declared.DyadicRow.TheVariants as dyadic
use Rattle.isa.specs.declared.Operands.{Operands}
use Rattle.isa.specs.declared.Operands.TheVariants.{Gen, GenWritten, GenAddress, GenMoved}
use Rattle.isa.specs.declared.DyadicListed.{DyadicListed}
use Rattle.isa.specs.declared.MonadicRow.{MonadicRow}
use Rattle.isa.specs.declared.MonadicRow.TheVariants as monadic
use Rattle.isa.specs.declared.Single.{Single}
use Rattle.isa.specs.declared.Single.TheVariants.{Word32, Flow32, Abs32, Stk32, EnterWord32}
use Rattle.isa.specs.declared.MonadicListed.{MonadicListed}

-- ---- length 2: the parcel with no operand bits, by opcode and subcode, and its operands

abbrev pub opcode_line : ℕ → FieldMode → FieldMode → ShortListed
opcode_line k s d = record { base = k * 1024; source = s; destination = d }

abbrev pub stack_line : ℕ → FieldMode → ShortListed
stack_line j s = record { base = 0x02 * 1024 + j * 256; source = s; destination = Absent }

abbrev pub niladic_line : ℕ → ShortListed
niladic_line j = record { base = 0x0B * 1024 + j; source = Absent; destination = Absent }

abbrev pub short_listed : ShortRow → ShortListed
short_listed short.Add3WaiStk = opcode_line 0x0D Wai5 Stk5
short_listed short.AddImmStk = opcode_line 0x14 Imm5 Stk5
short_listed short.Add3ImmStk = opcode_line 0x15 Imm5 Stk5
short_listed short.AddStkStk = opcode_line 0x16 Stk5 Stk5
short_listed short.Add3StkStk = opcode_line 0x17 Stk5 Stk5
short_listed short.And3ImmStk = opcode_line 0x0E Imm5 Stk5
short_listed short.AndStkStk = opcode_line 0x0F Stk5 Stk5
short_listed short.Call = opcode_line 0x01 Pcrel10 Absent
short_listed short.Catch = stack_line 0x1 Stk8
short_listed short.Clre = niladic_line 0xA
short_listed short.CmpeqImmStk = opcode_line 0x10 Imm5 Stk5
short_listed short.CmpgtStkStk = opcode_line 0x11 Stk5 Stk5
short_listed short.CmpgtImmStk = opcode_line 0x12 Imm5 Stk5
short_listed short.CmpeqStkStk = opcode_line 0x13 Stk5 Stk5
short_listed short.Cret = niladic_line 0x5
short_listed short.Enter = stack_line 0x0 Fill8
short_listed short.Flushi = niladic_line 0x3
short_listed short.Flushp = niladic_line 0x4
short_listed short.Jmp = opcode_line 0x03 Pcrel10 Absent
short_listed short.Jmpfn = opcode_line 0x04 Pcrel10 Absent
short_listed short.Jmpfy = opcode_line 0x05 Pcrel10 Absent
short_listed short.Jmptn = opcode_line 0x06 Pcrel10 Absent
short_listed short.Jmpty = opcode_line 0x07 Pcrel10 Absent
short_listed short.Kcall = opcode_line 0x00 Imm10 Absent
short_listed short.Kret = niladic_line 0x1
short_listed short.MovWaiStk = opcode_line 0x0A Wai5 Stk5
short_listed short.MovStkStk = opcode_line 0x18 Stk5 Stk5
short_listed short.MovIstkStk = opcode_line 0x19 Istk5 Stk5
short_listed short.MovStkIstk = opcode_line 0x1A Stk5 Istk5
short_listed short.MovIstkIstk = opcode_line 0x1B Istk5 Istk5
short_listed short.MovImmStk = opcode_line 0x1C Imm5 Stk5
short_listed short.MovaStkStk = opcode_line 0x1D Stk5 Stk5
short_listed short.Nop = niladic_line 0x2
short_listed short.Popn = stack_line 0x3 Stk8
short_listed short.Return = stack_line 0x2 Stk8
short_listed short.Shl3UimmStk = opcode_line 0x1E Uimm5 Stk5
short_listed short.Shr3UimmStk = opcode_line 0x1F Uimm5 Stk5
short_listed short.Testc = niladic_line 0x9
short_listed short.Testv = niladic_line 0x8

-- ---- lengths 6 and 10 with two operands: the opcode, the same at both, and what gen16 and gen32 leave out

abbrev pub dyadic_line : ℕ → Operands → DyadicListed
dyadic_line k o = record { opcode = k; operands = o }

abbrev pub dyadic_listed : DyadicRow → DyadicListed
dyadic_listed dyadic.Add = dyadic_line 0x23 Gen
dyadic_listed dyadic.Add3 = dyadic_line 0x33 Gen
dyadic_listed dyadic.Addi = dyadic_line 0x03 Gen
dyadic_listed dyadic.And = dyadic_line 0x22 Gen
dyadic_listed dyadic.And3 = dyadic_line 0x32 Gen
dyadic_listed dyadic.Andi = dyadic_line 0x02 Gen
dyadic_listed dyadic.Cmpgt = dyadic_line 0x1D Gen
dyadic_listed dyadic.Cmphi = dyadic_line 0x1E Gen
dyadic_listed dyadic.Cmpeq = dyadic_line 0x1F Gen
dyadic_listed dyadic.Div = dyadic_line 0x27 Gen
dyadic_listed dyadic.Div3 = dyadic_line 0x37 Gen
dyadic_listed dyadic.Dqm = dyadic_line 0x07 GenMoved
dyadic_listed dyadic.Mov = dyadic_line 0x06 GenWritten
dyadic_listed dyadic.Mova = dyadic_line 0x04 GenAddress
dyadic_listed dyadic.Mul = dyadic_line 0x26 Gen
dyadic_listed dyadic.Mul3 = dyadic_line 0x36 Gen
dyadic_listed dyadic.Or = dyadic_line 0x21 Gen
dyadic_listed dyadic.Or3 = dyadic_line 0x31 Gen
dyadic_listed dyadic.Ori = dyadic_line 0x01 Gen
dyadic_listed dyadic.Rem = dyadic_line 0x25 Gen
dyadic_listed dyadic.Rem3 = dyadic_line 0x35 Gen
dyadic_listed dyadic.Shl = dyadic_line 0x2E Gen
dyadic_listed dyadic.Shl3 = dyadic_line 0x3E Gen
dyadic_listed dyadic.Shr = dyadic_line 0x2C Gen
dyadic_listed dyadic.Shr3 = dyadic_line 0x3C Gen
dyadic_listed dyadic.Sub = dyadic_line 0x20 Gen
dyadic_listed dyadic.Sub3 = dyadic_line 0x30 Gen
dyadic_listed dyadic.Tadd = dyadic_line 0x0C Gen
dyadic_listed dyadic.Tsub = dyadic_line 0x0D Gen
dyadic_listed dyadic.Udiv = dyadic_line 0x2F Gen
dyadic_listed dyadic.Urem = dyadic_line 0x05 Gen
dyadic_listed dyadic.Ushr = dyadic_line 0x2D Gen
dyadic_listed dyadic.Ushr3 = dyadic_line 0x3D Gen
dyadic_listed dyadic.Xor = dyadic_line 0x24 Gen
dyadic_listed dyadic.Xor3 = dyadic_line 0x34 Gen

-- ---- length 6 with one operand: opcode 0, the subcode, the operand's class in Table 3-2

abbrev pub monadic_line : ℕ → Single → MonadicListed
monadic_line j o = record { subcode = j; operand = o }

abbrev pub monadic_listed : MonadicRow → MonadicListed
monadic_listed monadic.Call = monadic_line 0x1 Flow32
monadic_listed monadic.Catch = monadic_line 0x8 Word32
monadic_listed monadic.Enter = monadic_line 0x9 EnterWord32
monadic_listed monadic.Flushpbe = monadic_line 0xC Word32
monadic_listed monadic.Flushpte = monadic_line 0xB Word32
monadic_listed monadic.Jmp = monadic_line 0x3 Flow32
monadic_listed monadic.Jmpfn = monadic_line 0x4 Abs32
monadic_listed monadic.Jmpfy = monadic_line 0x5 Abs32
monadic_listed monadic.Jmptn = monadic_line 0x6 Abs32
monadic_listed monadic.Jmpty = monadic_line 0x7 Abs32
monadic_listed monadic.Kcall = monadic_line 0x0 Word32
monadic_listed monadic.Ldraa = monadic_line 0xA Flow32
monadic_listed monadic.Popn = monadic_line 0xF Stk32
monadic_listed monadic.Return = monadic_line 0x2 Stk32
