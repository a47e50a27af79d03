-- Event frames, vectors and the reset (1.11): KCALL, KRET, CRET, interrupts, exceptions, unimplemented instructions.
-- Assumes nothing.
use Rattle.std.specs.Prelude.{ℕ, ◌*◌, ◌/◌, ◌^◌, cond}
use Rattle.word.specs.declared.Width.TheVariants.{Word}
use Rattle.word.specs.Sums.{plus_of, minus_of}
use Rattle.word.specs.Fields.{bit_of}
use Rattle.isa.specs.declared.MonadicMode.{MonadicMode}
use Rattle.mmu.specs.declared.Regime.{Regime}
use Rattle.access_spec.specs.Program.{Program, ret}
use Rattle.machine.specs.Registers.{config, isp, msp, pc, psw, shad, sp, stb, vb, trace_due, timer1_due, timer2_due, unreserved}
use Rattle.machine.specs.Status.{Cpu, reg, with, csp, sp_current, is_user}
use Rattle.datapath.specs.Parts.{Out, stop, done, ◌>>=◌}
use Rattle.datapath.specs.Data.{write_data, read_frame, write_frame}
use Rattle.memory.specs.Exceptions.{privilege_violation}
use Rattle.machine.specs.Bits.{virtual_bit, sp_current_bit, stack_cache_bit}
use Rattle.exec_spec.specs.Control.{read_word32, jumped, next_pc}
use Rattle.exec_spec.specs.Stack.{catch_to}

-- ---- frames on the interrupt stack

-- PC and PSW below the interrupt stack pointer, which then goes down by a quad-word, with SHAD
unfoldable pub push_pair : Cpu → ℕ → Program (Out Cpu)
push_pair c a = do
  _ ← write_frame c (minus_of (reg c isp) 8) a
  _ ← write_frame c (minus_of (reg c isp) 4) (reg c psw)
  done (with (with c isp (minus_of (reg c isp) 16)) shad (minus_of (reg c isp) 16))

-- with a third word: KCALL's operand, or the exception's number
unfoldable pub push_frame : Cpu → ℕ → ℕ → Program (Out Cpu)
push_frame c x a = do
  _ ← write_frame c (minus_of (reg c isp) 12) x
  push_pair c a

-- "PC = *(VB + ..)", "PSW &= 0xFFFF0000"
unfoldable pub through_vector : Cpu → ℕ → Program (Out Cpu)
through_vector c offset = do
  a ← read_frame c (plus_of (reg c vb) offset)
  done (with (jumped c a) psw (reg c psw / 2 ^ 16 * 2 ^ 16))

-- Table 1-14
abbrev pub kcall_vector : ℕ
kcall_vector = 0

abbrev pub exception_vector : ℕ
exception_vector = 4

-- "if (CSP == ISP) ISP = SHAD else SP = SHAD"
abbrev pub restored_csp : Cpu → Cpu
restored_csp c = with c (csp c.bank) (reg c shad)

-- ---- KCALL

unfoldable pub kcall : Cpu → MonadicMode → ℕ → ℕ → Program (Out Cpu)
kcall c m v n = do
  x ← read_word32 c m v
  c ← push_frame c x (next_pc c n)
  through_vector c kcall_vector

-- ---- interrupts and exceptions

unfoldable pub interrupt_sequence : Cpu → ℕ → Program (Out Cpu)
interrupt_sequence c vector = do
  c ← push_pair (restored_csp c) (reg c pc)
  through_vector c vector

unfoldable pub exception_sequence : Cpu → ℕ → Program (Out Cpu)
exception_sequence c e = do
  c ← push_frame (restored_csp c) e (reg c pc)
  through_vector c exception_vector

-- ---- unimplemented instructions and trapped niladics (1.11.4): "*(CSP) = PC", "PC = *(VB + 12)" or 8

-- on the interrupt stack a fault resets; else the store is a data write
unfoldable pub store_pc : Cpu → Program (Out Cpu)
store_pc c = do
  _ ← write_frame c (reg c isp) (reg c pc)
  done c

unfoldable pub unimplemented_sequence : Cpu → ℕ → Program (Out Cpu)
unimplemented_sequence c vector = do
  c ← cond (sp_current c.bank) (write_data c Word (reg c sp) (reg c pc)) (store_pc c)
  a ← read_frame c (plus_of (reg c vb) vector)
  done (jumped c a)

-- ---- KRET and CRET

-- the words of PC and PSW restored, and the frame left
abbrev pub returned : Cpu → ℕ → ℕ → Cpu
returned c a p = shadowed_csp (with (with (jumped c a) psw (unreserved psw p)) isp (plus_of (reg c isp) 16))
  where
    shadowed_csp : Cpu → Cpu
    shadowed_csp d = with d shad (reg d (csp d.bank))

unfoldable pub kret : Cpu → Program (Out Cpu)
kret c = do
  a ← read_frame c (plus_of (reg c isp) 8)
  p ← read_frame c (plus_of (reg c isp) 12)
  done (returned c a p)

-- the regime of CRET's moves: the current level, virtual or physical as the restored PSW says
abbrev pub restored_regime : Cpu → ℕ → Regime
restored_regime c p = record { stb = reg c stb; user = is_user c.bank; translated = bit_of p virtual_bit }

-- the cache is filled to t, and MSP left there
unfoldable pub cret_caught : Cpu → ℕ → ℕ → Program (Out Cpu)
cret_caught c t p = do
  c ← catch_to c (restored_regime c p) t
  done (with c msp t)

-- SP is the frame's; MSP starts there and the cache is filled to the frame's MSP, if the restored PSW makes SP current
unfoldable pub cret_fill : Cpu → ℕ → ℕ → Program (Out Cpu)
cret_fill c m p =
    cond (bit_of p sp_current_bit)
    (cond (bit_of (reg c config) stack_cache_bit) (cret_caught c (unreserved msp m) p) (done c))
    (done (with c msp (unreserved msp m)))

-- with all four words of the frame, and with the first two of them
unfoldable pub cret_from : Cpu → ℕ → ℕ → ℕ → ℕ → Program (Out Cpu)
cret_from c s m a p = do
  c ← cret_fill (with (with c sp (unreserved sp s)) msp (unreserved sp s)) m p
  done (returned c a p)

unfoldable pub cret_after : Cpu → ℕ → ℕ → Program (Out Cpu)
cret_after c s m = do
  a ← read_frame c (plus_of (reg c isp) 8)
  p ← read_frame c (plus_of (reg c isp) 12)
  cret_from c s m a p

unfoldable pub cret : Cpu → Program (Out Cpu)
cret c = do
  s ← read_frame c (reg c isp)
  m ← read_frame c (plus_of (reg c isp) 4)
  cret_after c s m

-- "KRET is privileged", and CRET
unfoldable pub privileged : Cpu → Program (Out Cpu) → Program (Out Cpu)
privileged c p = cond (is_user c.bank) (ret (stop privilege_violation c)) p

-- ---- reset (1.11.1), by a fault: SHAD = PSW, and nothing is due
unfoldable pub reset : Cpu → Cpu
reset c =
    with (with (with (with (with (with (with c shad (reg c psw)) psw 0) config 0) pc 0) trace_due 0) timer1_due 0) timer2_due 0
