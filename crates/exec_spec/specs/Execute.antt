-- What each row of the encodings lists does, and the instruction as a program.
-- Assumes nothing.
use Rattle.std.specs.Prelude.{ℕ, false, not}
use Rattle.isa.specs.declared.ShortRow.{ShortRow}
use Rattle.isa.specs.declared.ShortRow.TheVariants as short
use Rattle.isa.specs.declared.DyadicRow.{DyadicRow}
use Rattle.isa.specs.declared.DyadicRow.TheVariants as wide
use Rattle.isa.specs.declared.MonadicRow.{MonadicRow}
use Rattle.isa.specs.declared.MonadicRow.TheVariants as row
use Rattle.isa.specs.declared.Mode.TheVariants.{StackWord, IndirectWord, Immediate}
use Rattle.isa.specs.declared.MonadicMode.{MonadicMode}
use Rattle.isa.specs.declared.MonadicMode.TheVariants.{WordStack, WordImmediate, FlowRelative}
use Rattle.isa.specs.declared.Operand.{Operand}
use Rattle.isa.specs.declared.Operand.TheVariants.{General}
use Rattle.isa.specs.declared.Wide.{Wide}
use Rattle.isa.specs.declared.Wide.TheVariants.{Five}
use Rattle.isa.specs.declared.Instruction.{Instruction}
use Rattle.isa.specs.declared.Instruction.TheVariants as instruction
use Rattle.access_spec.specs.Program.{Program}
use Rattle.machine.specs.Status.{Cpu}
use Rattle.datapath.specs.Parts.{Out, done, ◌>>=◌}
use Rattle.exec_spec.specs.declared.Operation.TheVariants.{Add, Sub, Mul, Div, Rem, Udiv, Urem, And, Or, Xor, Shl, Shr, Ushr}
use Rattle.exec_spec.specs.declared.Relation.TheVariants.{Equal, Greater, Higher}
use Rattle.exec_spec.specs.declared.Task.{Task}
use Rattle.exec_spec.specs.declared.Task.TheVariants.{Compute, Accumulate, Interlock, Compare, TaggedAdd, TaggedSub, Move, MoveAddress, MoveWords}
use Rattle.exec_spec.specs.declared.Monadic.{Monadic}
use Rattle.exec_spec.specs.declared.Monadic.TheVariants as monadic
use Rattle.exec_spec.specs.declared.Niladic.{Niladic}
use Rattle.exec_spec.specs.declared.Niladic.TheVariants as niladic
use Rattle.machine.specs.Bits.{flag_bit, carry_bit, overflow_bit}
use Rattle.exec_spec.specs.Alu.{psw_bit}
use Rattle.exec_spec.specs.Dyadic as two
use Rattle.exec_spec.specs.Control.{jump, jump_if, call, load_address, return, released, test_bit, with_guard, pc_advanced}
use Rattle.exec_spec.specs.Stack.{enter, catch}
use Rattle.exec_spec.specs.EventFrames.{kcall, kret, cret, privileged}

-- an instruction without its encoding
pub data Normal : Type 0 where
  two_operands : Wide → Task → Operand → Operand → Normal
  one_operand : Monadic → MonadicMode → ℕ → Normal
  no_operand : Niladic → Normal

-- one parcel: source s and destination d are constants, stack words or the words they point to
abbrev pub short_normal : ShortRow → ℕ → ℕ → Normal
short_normal short.Kcall s d = one_operand monadic.Kcall WordImmediate s
short_normal short.Call s d = one_operand monadic.Call FlowRelative s
short_normal short.Jmp s d = one_operand monadic.Jmp FlowRelative s
short_normal short.Jmpfn s d = one_operand monadic.JmpFalse FlowRelative s
short_normal short.Jmpfy s d = one_operand monadic.JmpFalse FlowRelative s
short_normal short.Jmptn s d = one_operand monadic.JmpTrue FlowRelative s
short_normal short.Jmpty s d = one_operand monadic.JmpTrue FlowRelative s
short_normal short.MovWaiStk s d = two_operands Five Move (General Immediate s) (General StackWord d)
short_normal short.Add3WaiStk s d = two_operands Five (Accumulate Add) (General Immediate s) (General StackWord d)
short_normal short.And3ImmStk s d = two_operands Five (Accumulate And) (General Immediate s) (General StackWord d)
short_normal short.AndStkStk s d = two_operands Five (Compute And) (General StackWord s) (General StackWord d)
short_normal short.CmpeqImmStk s d = two_operands Five (Compare Equal) (General Immediate s) (General StackWord d)
short_normal short.CmpgtStkStk s d = two_operands Five (Compare Greater) (General StackWord s) (General StackWord d)
short_normal short.CmpgtImmStk s d = two_operands Five (Compare Greater) (General Immediate s) (General StackWord d)
short_normal short.CmpeqStkStk s d = two_operands Five (Compare Equal) (General StackWord s) (General StackWord d)
short_normal short.AddImmStk s d = two_operands Five (Compute Add) (General Immediate s) (General StackWord d)
short_normal short.Add3ImmStk s d = two_operands Five (Accumulate Add) (General Immediate s) (General StackWord d)
short_normal short.AddStkStk s d = two_operands Five (Compute Add) (General StackWord s) (General StackWord d)
short_normal short.Add3StkStk s d = two_operands Five (Accumulate Add) (General StackWord s) (General StackWord d)
short_normal short.MovStkStk s d = two_operands Five Move (General StackWord s) (General StackWord d)
short_normal short.MovIstkStk s d = two_operands Five Move (General IndirectWord s) (General StackWord d)
short_normal short.MovStkIstk s d = two_operands Five Move (General StackWord s) (General IndirectWord d)
short_normal short.MovIstkIstk s d = two_operands Five Move (General IndirectWord s) (General IndirectWord d)
short_normal short.MovImmStk s d = two_operands Five Move (General Immediate s) (General StackWord d)
short_normal short.MovaStkStk s d = two_operands Five MoveAddress (General StackWord s) (General StackWord d)
short_normal short.Shl3UimmStk s d = two_operands Five (Accumulate Shl) (General Immediate s) (General StackWord d)
short_normal short.Shr3UimmStk s d = two_operands Five (Accumulate Shr) (General Immediate s) (General StackWord d)
short_normal short.Enter s d = one_operand monadic.Enter WordStack s
short_normal short.Catch s d = one_operand monadic.Catch WordStack s
short_normal short.Return s d = one_operand monadic.Return WordStack s
short_normal short.Popn s d = one_operand monadic.Popn WordStack s
short_normal short.Kret s d = no_operand niladic.Kret
short_normal short.Nop s d = no_operand niladic.Nop
short_normal short.Flushi s d = no_operand niladic.Nop
short_normal short.Flushp s d = no_operand niladic.Nop
short_normal short.Cret s d = no_operand niladic.Cret
short_normal short.Testv s d = no_operand niladic.Testv
short_normal short.Testc s d = no_operand niladic.Testc
short_normal short.Clre s d = no_operand niladic.Clre

abbrev pub task_of : DyadicRow → Task
task_of wide.Ori = Interlock Or
task_of wide.Andi = Interlock And
task_of wide.Addi = Interlock Add
task_of wide.Mova = MoveAddress
task_of wide.Urem = Compute Urem
task_of wide.Mov = Move
task_of wide.Dqm = MoveWords
task_of wide.Tadd = TaggedAdd
task_of wide.Tsub = TaggedSub
task_of wide.Cmpgt = Compare Greater
task_of wide.Cmphi = Compare Higher
task_of wide.Cmpeq = Compare Equal
task_of wide.Sub = Compute Sub
task_of wide.Or = Compute Or
task_of wide.And = Compute And
task_of wide.Add = Compute Add
task_of wide.Xor = Compute Xor
task_of wide.Rem = Compute Rem
task_of wide.Mul = Compute Mul
task_of wide.Div = Compute Div
task_of wide.Shr = Compute Shr
task_of wide.Ushr = Compute Ushr
task_of wide.Shl = Compute Shl
task_of wide.Udiv = Compute Udiv
task_of wide.Sub3 = Accumulate Sub
task_of wide.Or3 = Accumulate Or
task_of wide.And3 = Accumulate And
task_of wide.Add3 = Accumulate Add
task_of wide.Xor3 = Accumulate Xor
task_of wide.Rem3 = Accumulate Rem
task_of wide.Mul3 = Accumulate Mul
task_of wide.Div3 = Accumulate Div
task_of wide.Shr3 = Accumulate Shr
task_of wide.Ushr3 = Accumulate Ushr
task_of wide.Shl3 = Accumulate Shl

abbrev pub monadic_operation : MonadicRow → Monadic
monadic_operation row.Kcall = monadic.Kcall
monadic_operation row.Call = monadic.Call
monadic_operation row.Return = monadic.Return
monadic_operation row.Jmp = monadic.Jmp
monadic_operation row.Jmpfn = monadic.JmpFalse
monadic_operation row.Jmpfy = monadic.JmpFalse
monadic_operation row.Jmptn = monadic.JmpTrue
monadic_operation row.Jmpty = monadic.JmpTrue
monadic_operation row.Catch = monadic.Catch
monadic_operation row.Enter = monadic.Enter
monadic_operation row.Ldraa = monadic.Ldraa
monadic_operation row.Flushpte = monadic.Flush
monadic_operation row.Flushpbe = monadic.Flush
monadic_operation row.Popn = monadic.Popn

abbrev pub normal : Instruction → Normal
normal (instruction.Short i) = short_normal i.row i.source i.destination
normal (instruction.Dyadic i) = two_operands i.wide (task_of i.row) i.source i.destination
normal (instruction.Monadic i) = one_operand (monadic_operation i.row) i.mode i.value

-- n is the length in parcels that the decoder's answer carries: the next address in line is PC plus twice that
unfoldable pub execute_monadic : Cpu → Monadic → MonadicMode → ℕ → ℕ → Program (Out Cpu)
execute_monadic c monadic.Kcall m v n = kcall c m v n
execute_monadic c monadic.Call m v n = call c m v n
execute_monadic c monadic.Return m v n = return c v
execute_monadic c monadic.Jmp m v n = jump c m v
execute_monadic c monadic.JmpFalse m v n = jump_if (not (psw_bit c flag_bit)) c m v n
execute_monadic c monadic.JmpTrue m v n = jump_if (psw_bit c flag_bit) c m v n
execute_monadic c monadic.Catch m v n = catch c m v n
execute_monadic c monadic.Enter m v n = enter c m v n
execute_monadic c monadic.Ldraa m v n = load_address c m v n
execute_monadic c monadic.Flush m v n = done (pc_advanced c n)
execute_monadic c monadic.Popn m v n = done (pc_advanced (released c v) n)

unfoldable pub execute_niladic : Cpu → Niladic → ℕ → Program (Out Cpu)
execute_niladic c niladic.Kret n = privileged c (kret c)
execute_niladic c niladic.Cret n = privileged c (cret c)
execute_niladic c niladic.Nop n = done (pc_advanced c n)
execute_niladic c niladic.Testv n = done (pc_advanced (test_bit c overflow_bit) n)
execute_niladic c niladic.Testc n = done (pc_advanced (test_bit c carry_bit) n)
execute_niladic c niladic.Clre n = done (pc_advanced (with_guard c false) n)

unfoldable pub execute_normal : Cpu → ℕ → Normal → Program (Out Cpu)
execute_normal c n (two_operands w t s d) = do
  c ← two.dyadic c w t s d
  done (pc_advanced c n)
execute_normal c n (one_operand o m v) = execute_monadic c o m v n
execute_normal c n (no_operand o) = execute_niladic c o n

unfoldable pub execute : Cpu → Instruction → ℕ → Program (Out Cpu)
execute c i n = execute_normal c n (normal i)

-- ---- what tracing makes of an instruction (Table 1-8, 1.10.3): every instruction, those that may jump, or none

pub data Traced : Type 0 where
  always at_jumps never : Traced

abbrev pub monadic_traced : Monadic → Traced
monadic_traced monadic.Kcall = never
monadic_traced monadic.Call = at_jumps
monadic_traced monadic.Return = at_jumps
monadic_traced monadic.Jmp = at_jumps
monadic_traced monadic.JmpFalse = at_jumps
monadic_traced monadic.JmpTrue = at_jumps
monadic_traced monadic.Catch = always
monadic_traced monadic.Enter = always
monadic_traced monadic.Ldraa = always
monadic_traced monadic.Flush = always
monadic_traced monadic.Popn = always

abbrev pub niladic_traced : Niladic → Traced
niladic_traced niladic.Kret = never
niladic_traced niladic.Cret = never
niladic_traced niladic.Nop = always
niladic_traced niladic.Testv = always
niladic_traced niladic.Testc = always
niladic_traced niladic.Clre = always

abbrev pub traced : Normal → Traced
traced (two_operands w t s d) = always
traced (one_operand o m v) = monadic_traced o
traced (no_operand o) = niladic_traced o
