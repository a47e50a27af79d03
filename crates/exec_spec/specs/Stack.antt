-- ENTER and CATCH: the stack cache is flushed and filled (1.4.2).
-- Assumes nothing.
use Rattle.std.specs.Prelude.{ℕ, ◌*◌, ◌/◌, true, false, cond, not, ltb, eqb}
use Rattle.word.specs.declared.Width.TheVariants.{Word}
use Rattle.word.specs.Sums.{plus_of, minus_of}
use Rattle.isa.specs.declared.MonadicMode.{MonadicMode}
use Rattle.isa.specs.declared.MonadicMode.TheVariants.{WordAbsolute, WordStack, WordIndirect, WordImmediate, FlowAbsoluteIndirect, FlowStackIndirect, FlowRelative, FlowAbsolute}
use Rattle.isa.specs.Legal.{is_stack}
use Rattle.access_spec.specs.Access.{probe}
use Rattle.access_spec.specs.Program.{Program}
use Rattle.mmu.specs.declared.Regime.{Regime}
use Rattle.machine.specs.Registers.{msp, sp}
use Rattle.machine.specs.Status.{Cpu, reg, with, sp_current, cache_on, regime}
use Rattle.datapath.specs.Parts.{Out, done, request, ◌>>=◌}
use Rattle.datapath.specs.Data.{read_data, check_store}
use Rattle.datapath.specs.Moves.{scsize, flush, fill}
use Rattle.exec_spec.specs.Operands.{stack_address}
use Rattle.exec_spec.specs.Control.{with_csp, with_guard, pc_advanced}

-- the descriptions of ENTER and CATCH: a stack offset and an immediate are the target, the others name the word that holds it
unfoldable pub stack_target : Cpu → MonadicMode → ℕ → Program (Out ℕ)
stack_target c WordAbsolute v = read_data c Word v
stack_target c WordStack v = done (stack_address c v)
stack_target c WordIndirect v = read_data c Word (stack_address c v)
stack_target c WordImmediate v = done v
stack_target c FlowAbsoluteIndirect v = done v
stack_target c FlowStackIndirect v = done v
stack_target c FlowRelative v = done v
stack_target c FlowAbsolute v = done v

-- a step moves at most sixteen quad-words: all that the cache holds
abbrev pub quad_words : ℕ
quad_words = 16

-- "if the MSP is updated, the new value is checked to verify that stores are valid"
unfoldable pub check_msp : Cpu → Regime → ℕ → ℕ → Program (Out ℕ)
check_msp c r old new = cond (eqb new old) (done 0) (request c (probe r new) new)

-- ---- ENTER

-- nothing is moved: the interrupt stack is current, or the cache is off and MSP is left equal to SP
unfoldable pub enter_plain : Cpu → ℕ → Program (Out Cpu)
enter_plain c target = do
  _ ← check_store c target
  done (with_csp c target)

unfoldable pub enter_uncached : Cpu → ℕ → Program (Out Cpu)
enter_uncached c target = do
  _ ← check_store c target
  done (with (with_csp c target) msp target)

-- by a target that is no stack offset: all is flushed, and the cache is empty at the target
unfoldable pub enter_empty : Cpu → ℕ → Program (Out Cpu)
enter_empty c target = do
  c ← flush true target quad_words c
  _ ← check_store c target
  done (with (with_csp c target) msp target)

-- by a stack offset: only what is too much is flushed, and MSP is clipped to the cache's size
abbrev pub clipped : ℕ → ℕ → ℕ → ℕ
clipped old m target =
    cond (ltb scsize (minus_of old target)) (cond (ltb (plus_of target scsize) m) (plus_of target scsize) m) m

-- after the flush both pointers are checked, then set
unfoldable pub enter_clipped : Cpu → ℕ → ℕ → Program (Out Cpu)
enter_clipped c target old = do
  _ ← check_store c target
  _ ← check_msp c (regime c.bank) old (clipped old (reg c msp) target)
  done (with (with_csp c target) msp (clipped old (reg c msp) target))

unfoldable pub enter_offset : Cpu → ℕ → Program (Out Cpu)
enter_offset c target = enter_from c target (reg c msp)
  where
    enter_from : Cpu → ℕ → ℕ → Program (Out Cpu)
    enter_from c target old = do
      c ← flush false target quad_words c
      enter_clipped c target old

unfoldable pub enter_at : Cpu → MonadicMode → ℕ → Program (Out Cpu)
enter_at c m target =
    cond (not (sp_current c.bank)) (enter_plain c target)
    (cond (not (cache_on c.bank)) (enter_uncached c target)
    (cond (is_stack m) (enter_offset c target) (enter_empty c target)))

-- "Since the lower 4 bits of the SP do not exist, the lower 4 bits of the source operand are ignored"
unfoldable pub enter : Cpu → MonadicMode → ℕ → ℕ → Program (Out Cpu)
enter c m v n = do
  a ← stack_target c m v
  c ← enter_at c m (a / 16 * 16)
  done (pc_advanced (with_guard c true) n)

-- ---- CATCH

unfoldable pub catch_to : Cpu → Regime → ℕ → Program (Out Cpu)
catch_to c r target = catch_from (reg c msp)
  where
    catch_from : ℕ → Program (Out Cpu)
    catch_from old = do
      c ← fill r target quad_words c
      _ ← check_msp c r old (reg c msp)
      done c

unfoldable pub catch_current : Cpu → MonadicMode → ℕ → Program (Out Cpu)
catch_current c m v = do
  a ← stack_target c m v
  cond (cache_on c.bank) (catch_to c (regime c.bank) a) (done (with c msp (reg c sp)))

-- "If the CSP is the ISP, CATCH is a no-op"
unfoldable pub catch : Cpu → MonadicMode → ℕ → ℕ → Program (Out Cpu)
catch c m v n = do
  c ← cond (sp_current c.bank) (catch_current c m v) (done c)
  done (pc_advanced c n)
