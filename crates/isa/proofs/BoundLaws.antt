-- Bounds of the numbers in the encodings lists and of the modes, row by row.
-- Assumes nothing.
use Prim.Native.Nat.{◌<◌}
use lib.Dec.{lit<}
use Rattle.isa.specs.declared.DyadicRow.{DyadicRow}
use Rattle.isa.specs.declared.DyadicRow.TheVariants as dyadic
use Rattle.isa.specs.declared.MonadicRow.{MonadicRow}
use Rattle.isa.specs.declared.MonadicRow.TheVariants as monadic
use Rattle.isa.specs.declared.Mode.{Mode}
use Rattle.isa.specs.declared.Mode.TheVariants as mode
use Rattle.isa.specs.declared.Operand.{Operand}
use Rattle.isa.specs.declared.Operand.TheVariants.{General, Register}
use Rattle.isa.specs.declared.MonadicMode.{MonadicMode}
use Rattle.isa.specs.declared.MonadicMode.TheVariants as single
use Rattle.isa.specs.Encode.{mode_code, operand_code, monadic_code}
use Rattle.isa.specs.Encodings.{dyadic_listed, monadic_listed}

pub opcode_lt : (r : DyadicRow) → (dyadic_listed r).opcode < 64
opcode_lt dyadic.Ori = lit< tt
opcode_lt dyadic.Andi = lit< tt
opcode_lt dyadic.Addi = lit< tt
opcode_lt dyadic.Mova = lit< tt
opcode_lt dyadic.Urem = lit< tt
opcode_lt dyadic.Mov = lit< tt
opcode_lt dyadic.Dqm = lit< tt
opcode_lt dyadic.Tadd = lit< tt
opcode_lt dyadic.Tsub = lit< tt
opcode_lt dyadic.Cmpgt = lit< tt
opcode_lt dyadic.Cmphi = lit< tt
opcode_lt dyadic.Cmpeq = lit< tt
opcode_lt dyadic.Sub = lit< tt
opcode_lt dyadic.Or = lit< tt
opcode_lt dyadic.And = lit< tt
opcode_lt dyadic.Add = lit< tt
opcode_lt dyadic.Xor = lit< tt
opcode_lt dyadic.Rem = lit< tt
opcode_lt dyadic.Mul = lit< tt
opcode_lt dyadic.Div = lit< tt
opcode_lt dyadic.Shr = lit< tt
opcode_lt dyadic.Ushr = lit< tt
opcode_lt dyadic.Shl = lit< tt
opcode_lt dyadic.Udiv = lit< tt
opcode_lt dyadic.Sub3 = lit< tt
opcode_lt dyadic.Or3 = lit< tt
opcode_lt dyadic.And3 = lit< tt
opcode_lt dyadic.Add3 = lit< tt
opcode_lt dyadic.Xor3 = lit< tt
opcode_lt dyadic.Rem3 = lit< tt
opcode_lt dyadic.Mul3 = lit< tt
opcode_lt dyadic.Div3 = lit< tt
opcode_lt dyadic.Shr3 = lit< tt
opcode_lt dyadic.Ushr3 = lit< tt
opcode_lt dyadic.Shl3 = lit< tt

pub subcode_lt : (r : MonadicRow) → (monadic_listed r).subcode < 16
subcode_lt monadic.Kcall = lit< tt
subcode_lt monadic.Call = lit< tt
subcode_lt monadic.Return = lit< tt
subcode_lt monadic.Jmp = lit< tt
subcode_lt monadic.Jmpfn = lit< tt
subcode_lt monadic.Jmpfy = lit< tt
subcode_lt monadic.Jmptn = lit< tt
subcode_lt monadic.Jmpty = lit< tt
subcode_lt monadic.Catch = lit< tt
subcode_lt monadic.Enter = lit< tt
subcode_lt monadic.Ldraa = lit< tt
subcode_lt monadic.Flushpte = lit< tt
subcode_lt monadic.Flushpbe = lit< tt
subcode_lt monadic.Popn = lit< tt

mode_lt : (m : Mode) → mode_code m < 16
mode_lt mode.AbsoluteByte = lit< tt
mode_lt mode.AbsoluteUbyte = lit< tt
mode_lt mode.AbsoluteHalf = lit< tt
mode_lt mode.AbsoluteUhalf = lit< tt
mode_lt mode.StackByte = lit< tt
mode_lt mode.StackUbyte = lit< tt
mode_lt mode.StackHalf = lit< tt
mode_lt mode.StackUhalf = lit< tt
mode_lt mode.IndirectByte = lit< tt
mode_lt mode.IndirectUbyte = lit< tt
mode_lt mode.IndirectHalf = lit< tt
mode_lt mode.IndirectUhalf = lit< tt
mode_lt mode.AbsoluteWord = lit< tt
mode_lt mode.StackWord = lit< tt
mode_lt mode.IndirectWord = lit< tt
mode_lt mode.Immediate = lit< tt

pub operand_lt : (o : Operand) → operand_code o < 16
operand_lt (General m v) = mode_lt m
operand_lt (Register n) = lit< tt

pub single_lt : (m : MonadicMode) → monadic_code m < 16
single_lt single.WordAbsolute = lit< tt
single_lt single.WordStack = lit< tt
single_lt single.WordIndirect = lit< tt
single_lt single.WordImmediate = lit< tt
single_lt single.FlowAbsoluteIndirect = lit< tt
single_lt single.FlowStackIndirect = lit< tt
single_lt single.FlowRelative = lit< tt
single_lt single.FlowAbsolute = lit< tt
