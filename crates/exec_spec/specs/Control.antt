-- Jumps, calls and returns, and the instructions without operands (CALL, JMP, LDRAA, POPN, RETURN, CLRE, TESTC, TESTV, NOP).
-- Assumes nothing.
use Rattle.std.specs.Prelude.{ℕ, ◌*◌, ◌/◌, Bool, false, cond, not, ◌&&◌, ◌||◌, ltb}
use Rattle.word.specs.Fields.{bit_of}
use Rattle.word.specs.declared.Width.TheVariants.{Word}
use Rattle.word.specs.Sums.{plus_of}
use Rattle.isa.specs.declared.MonadicMode.{MonadicMode}
use Rattle.isa.specs.declared.MonadicMode.TheVariants.{WordAbsolute, WordStack, WordIndirect, WordImmediate, FlowAbsoluteIndirect, FlowStackIndirect, FlowRelative, FlowAbsolute}
use Rattle.access_spec.specs.Program.{Program}
use Rattle.machine.specs.Registers.{pc, psw, msp, shad}
use Rattle.machine.specs.Status.{Cpu, reg, with, csp, sp_current, cache_on}
use Rattle.datapath.specs.Parts.{Out, done, ◌>>=◌}
use Rattle.datapath.specs.Data.{read_data, write_data}
use Rattle.machine.specs.Bits.{flag_bit}
use Rattle.exec_spec.specs.Alu.{with_bit_as}
use Rattle.exec_spec.specs.Operands.{stack_address, write_accumulator}
use Rattle.machine.specs.Bits.{guard_bit}

-- "the PC is always a multiple of two" (1.5.6)
abbrev pub jumped : Cpu → ℕ → Cpu
jumped c a = with c pc (a / 2 * 2)

-- request (g): "The next address in line, which CALL saves and where a step that loads no other PC goes on, is PC plus twice
-- that", the carried length n, "modulo 2^32"
abbrev pub next_pc : Cpu → ℕ → ℕ
next_pc c n = plus_of (reg c pc) (n * 2)

abbrev pub pc_advanced : Cpu → ℕ → Cpu
pc_advanced c n = with c pc (next_pc c n)

-- the word that the word at a points to
unfoldable pub read_through : Cpu → ℕ → Program (Out ℕ)
read_through c a = do
  w ← read_data c Word a
  read_data c Word w

-- an operand of a word mode: KCALL, and the targets that are read
unfoldable pub read_word32 : Cpu → MonadicMode → ℕ → Program (Out ℕ)
read_word32 c WordAbsolute v = read_data c Word v
read_word32 c WordStack v = read_data c Word (stack_address c v)
read_word32 c WordIndirect v = read_through c (stack_address c v)
read_word32 c WordImmediate v = done v
read_word32 c FlowAbsoluteIndirect v = read_data c Word v
read_word32 c FlowStackIndirect v = read_data c Word (stack_address c v)
read_word32 c FlowRelative v = done (plus_of (reg c pc) v)
read_word32 c FlowAbsolute v = done v

-- Table 1-23: where CALL and JMP go. PC-relative counts from the instruction, or its prefix
abbrev pub flow_target : Cpu → MonadicMode → ℕ → Program (Out ℕ)
flow_target c m v = read_word32 c m v

unfoldable pub jump : Cpu → MonadicMode → ℕ → Program (Out Cpu)
jump c m v = do
  a ← flow_target c m v
  done (jumped c a)

-- JMPT and JMPF: the predicted way does not matter
unfoldable pub jump_if : Bool → Cpu → MonadicMode → ℕ → ℕ → Program (Out Cpu)
jump_if b c m v n = cond b (jump c m v) (done (pc_advanced c n))

-- CALL: the target is read, the next PC is stored at the current stack pointer, then PC is the target
unfoldable pub call_to : Cpu → ℕ → ℕ → Program (Out Cpu)
call_to c a n = do
  c ← write_data c Word (reg c (csp c.bank)) (next_pc c n)
  done (jumped c a)

unfoldable pub call : Cpu → MonadicMode → ℕ → ℕ → Program (Out Cpu)
call c m v n = do
  a ← flow_target c m v
  call_to c a n

-- LDRAA: "calculated as if a JMP instruction was being executed and stored in the accumulator"
unfoldable pub load_accumulator : Cpu → ℕ → ℕ → Program (Out Cpu)
load_accumulator c a n = do
  c ← write_accumulator c a
  done (pc_advanced c n)

unfoldable pub load_address : Cpu → MonadicMode → ℕ → ℕ → Program (Out Cpu)
load_address c m v n = do
  a ← flow_target c m v
  load_accumulator c a n

-- the current stack pointer with its shadow
abbrev pub with_csp : Cpu → ℕ → Cpu
with_csp c v = with (with c (csp c.bank) v) shad v

-- POPN, RETURN: "If the CSP is SP, and the new SP value exceeds the MSP, the MSP is also updated"; HOUSE: with the cache off
-- MSP is left equal to SP
unfoldable pub released : Cpu → ℕ → Cpu
released c v =
    cond (sp_current c.bank && (not (cache_on c.bank) || ltb (reg c msp) (stack_address c v / 16 * 16)))
    (with (with_csp c (stack_address c v / 16 * 16)) msp (stack_address c v / 16 * 16))
    (with_csp c (stack_address c v / 16 * 16))

unfoldable pub return : Cpu → ℕ → Program (Out Cpu)
return c v = do
  a ← read_data c Word (stack_address c v)
  done (jumped (released c v) a)

-- TESTC, TESTV: "copied into the PSW flag bit", and cleared
abbrev pub tested_of : ℕ → ℕ → ℕ
tested_of x n = with_bit_as flag_bit (bit_of x n) (with_bit_as n false x)

abbrev pub test_bit : Cpu → ℕ → Cpu
test_bit c n = with c psw (tested_of (reg c psw) n)

abbrev pub with_guard : Cpu → Bool → Cpu
with_guard c b = with c psw (with_bit_as guard_bit b (reg c psw))
