-- Jumps, calls, returns, and the instructions without operands keep to the rules.
-- Assumes nothing.
use Prim.Native.Nat.{ℕ, ◌*◌, ◌/◌, ◌<◌}
use mathlib.Core.Bool.{Bool, true, false, cond, not, ◌&&◌, ◌||◌}
use native.Mathlib.Omega.{arith}
use lib.Dec.{T, ltb}
use Rattle.word.specs.declared.Width.TheVariants.{Word}
use Rattle.isa.specs.declared.MonadicMode.{MonadicMode}
use Rattle.isa.specs.declared.MonadicMode.TheVariants.{WordAbsolute, WordStack, WordIndirect, WordImmediate, FlowAbsoluteIndirect, FlowStackIndirect, FlowRelative, FlowAbsolute}
use Rattle.machine.specs.Registers.{pc, psw, msp, shad, sp, isp}
use Rattle.machine.specs.Status.{Cpu, reg, with, csp, sp_current, cache_on}
use Rattle.machine.specs.Bits.{flag_bit}
use Rattle.exec_spec.specs.Alu.{psw_bit}
use Rattle.exec_spec.specs.Operands.{stack_address}
use Rattle.machine.specs.Bits.{guard_bit}
use Rattle.exec_spec.specs.Control.{jumped, pc_advanced, read_word32, jump, jump_if, call, load_address, with_csp, released, return, test_bit, with_guard, call_to, load_accumulator, read_through}
use Rattle.invariants.proofs.RuleLaws.{Rules, Value, Part, bind, more, gives, either, is_flag}
use Rattle.invariants.proofs.FlagLaws.{alike_same, alike_bit}
use Rattle.invariants.proofs.AccessLaws.{plus_value, read_data_law, write_data_law}
use Rattle.invariants.proofs.OperandLaws.{write_accumulator_law}

module _ (k : Rules) where
  -- ---- the machine with one register more

  pub jumped_holds : (c : Cpu) (a : ℕ) → k.Holds c → Value k a → k.Holds (jumped c a)
  jumped_holds c a h f = k.plain c pc _ tt h (λ t. omega (arith, f t))

  pub advanced_holds : (c : Cpu) (n : ℕ) → k.Holds c → k.Holds (pc_advanced c n)
  advanced_holds c n h = k.plain c pc _ tt h (plus_value k (reg c pc) (n * 2))

  -- the current stack pointer
  pub csp_holds : (c : Cpu) (v : ℕ) → k.Holds c → Value k v → k.Holds (with c (csp c.bank) v)
  csp_holds c v h f = go (sp_current c.bank)
    where
      go : (b : Bool) → k.Holds (with c (cond b sp isp) v)
      go true = k.plain c sp v tt h f
      go false = k.plain c isp v tt h f

  pub with_csp_holds : (c : Cpu) (v : ℕ) → k.Holds c → Value k v → k.Holds (with_csp c v)
  with_csp_holds c v h f = k.plain _ shad v tt (csp_holds c v h f) f

  pub released_holds : (c : Cpu) (v : ℕ) → k.Holds c → k.Holds (released c v)
  unfolding released
  released_holds c v h = go (sp_current c.bank && (not (cache_on c.bank) || ltb (reg c msp) (stack_address c v / 16 * 16)))
    where
      low : Value k (stack_address c v / 16 * 16)
      low t = omega (arith, plus_value k (reg c (csp c.bank)) v t)

      go : (b : Bool) → k.Holds (cond b (with (with_csp c (stack_address c v / 16 * 16)) msp (stack_address c v / 16 * 16)) (with_csp c (stack_address c v / 16 * 16)))
      go true = k.plain _ msp _ tt (with_csp_holds c _ h low) low
      go false = with_csp_holds c _ h low

  pub test_holds : (c : Cpu) (n : ℕ) → T (is_flag n) → n < 32 → k.Holds c → k.Holds (test_bit c n)
  test_holds c n f l h =
      k.status c _ h
      (alike_bit flag_bit (psw_bit c n) _ _ tt (omega arith) (alike_bit n false _ _ f l (alike_same (reg c psw))))

  pub guard_holds : (c : Cpu) (b : Bool) → k.Holds c → k.Holds (with_guard c b)
  guard_holds c b h = k.status c _ h (alike_bit guard_bit b _ _ tt (omega arith) (alike_same (reg c psw)))

  -- ---- instructions

  pub word_operand : (c : Cpu) (m : MonadicMode) (v : ℕ) → k.Holds c → Value k v → Part k (Value k) 2 (read_word32 c m v)
  unfolding read_word32 read_through
  word_operand c WordAbsolute v h f = more 2 (omega arith) (read_data_law k c Word v h f)
  word_operand c WordStack v h f = more 2 (omega arith) (read_data_law k c Word (stack_address c v) h (plus_value k _ v))
  word_operand c WordIndirect v h f = bind (read_data_law k c Word (stack_address c v) h (plus_value k _ v)) λ a g. read_data_law k c Word a h g
  word_operand c WordImmediate v h f = gives f
  word_operand c FlowAbsoluteIndirect v h f = more 2 (omega arith) (read_data_law k c Word v h f)
  word_operand c FlowStackIndirect v h f = more 2 (omega arith) (read_data_law k c Word (stack_address c v) h (plus_value k _ v))
  word_operand c FlowRelative v h f = gives (plus_value k _ v)
  word_operand c FlowAbsolute v h f = gives f

  pub jump_part : (c : Cpu) (m : MonadicMode) (v : ℕ) → k.Holds c → Value k v → Part k k.Holds 2 (jump c m v)
  unfolding jump
  jump_part c m v h f = bind (word_operand c m v h f) λ a g. gives {n = 0} (jumped_holds c a h g)

  pub jump_if_part : (b : Bool) (c : Cpu) (m : MonadicMode) (v n : ℕ) → k.Holds c → Value k v → Part k k.Holds 2 (jump_if b c m v n)
  unfolding jump_if
  jump_if_part b c m v n h f = either b (λ _. jump_part c m v h f) (λ _. gives (advanced_holds c n h))

  pub call_part : (c : Cpu) (m : MonadicMode) (v n : ℕ) → k.Holds c → Value k v → Part k k.Holds 3 (call c m v n)
  unfolding call call_to
  call_part c m v n h f =
      bind (word_operand c m v h f) λ a g.
      bind (write_data_law k c Word (reg c (csp c.bank)) _ h (k.words c _ h)) λ d e. gives {n = 0} (jumped_holds d a e g)

  pub load_address_part : (c : Cpu) (m : MonadicMode) (v n : ℕ) → k.Holds c → Value k v → Part k k.Holds 3 (load_address c m v n)
  unfolding load_address load_accumulator
  load_address_part c m v n h f =
      bind (word_operand c m v h f) λ a g.
      bind (write_accumulator_law k c a h) λ d e. gives {n = 0} (advanced_holds d n e)

  pub return_part : (c : Cpu) (v : ℕ) → k.Holds c → Part k k.Holds 1 (return c v)
  unfolding return
  return_part c v h =
      bind (read_data_law k c Word (stack_address c v) h (plus_value k _ v)) λ a g. gives {n = 0} (jumped_holds _ a (released_holds c v h) g)
