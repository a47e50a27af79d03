-- ENTER and CATCH keep to the rules: at most sixteen quad-words move, and two checks follow.
-- Assumes nothing.
use Prim.Native.Nat.{ℕ, ◌*◌, ◌/◌}
use mathlib.Core.Path.{refl}
use mathlib.Core.Bool.{Bool, true, false, cond, not}
use native.Mathlib.Omega.{arith}
use lib.Dec.{ltb, eqb}
use Rattle.word.specs.declared.Width.TheVariants.{Word}
use Rattle.word.specs.Sums.{plus_of, minus_of}
use Rattle.isa.specs.declared.MonadicMode.{MonadicMode}
use Rattle.isa.specs.declared.MonadicMode.TheVariants.{WordAbsolute, WordStack, WordIndirect, WordImmediate, FlowAbsoluteIndirect, FlowStackIndirect, FlowRelative, FlowAbsolute}
use Rattle.isa.specs.Legal.{is_stack}
use Rattle.access_spec.specs.Access.{probe}
use Rattle.mmu.specs.declared.Regime.{Regime}
use Rattle.machine.specs.Registers.{msp, sp}
use Rattle.machine.specs.Status.{Cpu, reg, with, sp_current, cache_on, regime}
use Rattle.datapath.specs.Moves.{scsize}
use Rattle.exec_spec.specs.Operands.{stack_address}
use Rattle.exec_spec.specs.Control.{with_csp}
use Rattle.exec_spec.specs.Stack.{stack_target, check_msp, enter_plain, enter_uncached, enter_empty, clipped, enter_offset, enter_at, enter, catch_to, catch_current, catch, enter_clipped}
use Rattle.access_spec.proofs.BoundedLaws.{Any}
use Rattle.invariants.proofs.RuleLaws.{Rules, Value, Part, bind, more, gives, either, some}
use Rattle.invariants.proofs.AccessLaws.{plus_value, read_data_law, request_part, check_store_law}
use Rattle.invariants.proofs.MoveLaws.{Allows, flush_part, fill_part}
use Rattle.invariants.proofs.FlowLaws.{advanced_holds, with_csp_holds, guard_holds}

module _ (k : Rules) where
  stack_target_law : (c : Cpu) (m : MonadicMode) (v : ℕ) → k.Holds c → Value k v → Part k (Value k) 1 (stack_target c m v)
  unfolding stack_target
  stack_target_law c WordAbsolute v h f = read_data_law k c Word v h f
  stack_target_law c WordStack v h f = gives (plus_value k _ v)
  stack_target_law c WordIndirect v h f = read_data_law k c Word (stack_address c v) h (plus_value k _ v)
  stack_target_law c WordImmediate v h f = gives f
  stack_target_law c FlowAbsoluteIndirect v h f = gives f
  stack_target_law c FlowStackIndirect v h f = gives f
  stack_target_law c FlowRelative v h f = gives f
  stack_target_law c FlowAbsolute v h f = gives f

  check_msp_law : (c : Cpu) (r : Regime) (old new : ℕ) → Allows k r → k.Holds c → Value k new → Part k Any 1 (check_msp c r old new)
  unfolding check_msp
  check_msp_law c r old new a h f = either (eqb new old) (λ _. gives tt) (λ _. some (request_part k c (probe r new) new h (a _ refl) f))

  -- ---- ENTER

  moved_holds : (c : Cpu) (a m : ℕ) → k.Holds c → Value k a → Value k m → k.Holds (with (with_csp c a) msp m)
  moved_holds c a m h f g = k.plain _ msp m tt (with_csp_holds k c a h f) g

  clipped_value : (c : Cpu) (old target : ℕ) → k.Holds c → Value k (clipped old (reg c msp) target)
  clipped_value c old target h = go (ltb scsize (minus_of old target)) (ltb (plus_of target scsize) (reg c msp))
    where
      go : (x y : Bool) → Value k (cond x (cond y (plus_of target scsize) (reg c msp)) (reg c msp))
      go true true = plus_value k target scsize
      go true false = k.words c msp h
      go false y = k.words c msp h

  enter_offset_law : (c : Cpu) (target : ℕ) → k.Holds c → Value k target → Part k k.Holds 66 (enter_offset c target)
  unfolding enter_offset enter_clipped
  enter_offset_law c target h f =
      bind (flush_part k false target 16 c h) λ d g.
      bind (check_store_law k d target g f) λ _ _.
      bind (check_msp_law d (regime d.bank) (reg c msp) _ (λ q e. k.asks d q g e) g (clipped_value d (reg c msp) target g)) λ _ _.
      gives {n = 0} (moved_holds d target _ g f (clipped_value d (reg c msp) target g))

  enter_at_law : (c : Cpu) (m : MonadicMode) (target : ℕ) → k.Holds c → Value k target → Part k k.Holds 66 (enter_at c m target)
  unfolding enter_at enter_plain enter_uncached enter_empty
  enter_at_law c m target h f =
      either (not (sp_current c.bank))
      (λ _. more 66 (omega arith) (bind (check_store_law k c target h f) λ _ _. gives {n = 0} (with_csp_holds k c target h f)))
      (λ _. either (not (cache_on c.bank))
      (λ _. more 66 (omega arith) (bind (check_store_law k c target h f) λ _ _. gives {n = 0} (moved_holds c target target h f f)))
      (λ _. either (is_stack m) (λ _. enter_offset_law c target h f)
      (λ _. more 66 (omega arith)
      (bind (flush_part k true target 16 c h) λ d g.
      bind (check_store_law k d target g f) λ _ _. gives {n = 0} (moved_holds d target target g f f)))))

  pub enter_part : (c : Cpu) (m : MonadicMode) (v n : ℕ) → k.Holds c → Value k v → Part k k.Holds 67 (enter c m v n)
  unfolding enter
  enter_part c m v n h f =
      bind (stack_target_law c m v h f) λ a g.
      bind (enter_at_law c m (a / 16 * 16) h (λ t. omega (arith, g t))) λ d e. gives {n = 0} (advanced_holds k _ n (guard_holds k d true e))

  -- ---- CATCH

  pub catch_to_law : (c : Cpu) (r : Regime) (target : ℕ) → Allows k r → k.Holds c → Part k k.Holds 65 (catch_to c r target)
  unfolding catch_to
  catch_to_law c r target a h =
      bind (fill_part k r target 16 c a h) λ d g.
      bind (check_msp_law d r (reg c msp) (reg d msp) a g (k.words d msp g)) λ _ _. gives {n = 0} g

  catch_current_law : (c : Cpu) (m : MonadicMode) (v : ℕ) → k.Holds c → Value k v → Part k k.Holds 66 (catch_current c m v)
  unfolding catch_current
  catch_current_law c m v h f =
      bind (stack_target_law c m v h f) λ a g.
      either (cache_on c.bank) (λ _. catch_to_law c (regime c.bank) a (λ q e. k.asks c q h e) h)
      (λ _. gives (k.plain c msp _ tt h (k.words c sp h)))

  pub catch_part : (c : Cpu) (m : MonadicMode) (v n : ℕ) → k.Holds c → Value k v → Part k k.Holds 66 (catch c m v n)
  unfolding catch
  catch_part c m v n h f =
      bind (either (sp_current c.bank) (λ _. catch_current_law c m v h f) (λ _. gives h)) λ d g. gives {n = 0} (advanced_holds k d n g)
