-- Every instruction keeps to the rules, in at most 69 accesses.
-- Assumes nothing.
use Prim.Native.Nat.{ℕ, ◌^◌, ◌<◌}
use mathlib.Core.Path.{◌≡◌, refl}
use mathlib.Core.Bool.{true, false, not}
use native.Mathlib.Omega.{arith}
use Rattle.isa.specs.declared.MonadicMode.{MonadicMode}
use Rattle.isa.specs.declared.Instruction.{Instruction}
use Rattle.machine.specs.Status.{Cpu}
use Rattle.exec_spec.specs.declared.Monadic.{Monadic}
use Rattle.exec_spec.specs.declared.Monadic.TheVariants as monadic
use Rattle.exec_spec.specs.declared.Niladic.{Niladic}
use Rattle.exec_spec.specs.declared.Niladic.TheVariants as niladic
use Rattle.machine.specs.Bits.{flag_bit, carry_bit, overflow_bit}
use Rattle.exec_spec.specs.Alu.{psw_bit}
use Rattle.exec_spec.specs.EventFrames.{kret, cret}
use Rattle.exec_spec.specs.Execute.{Normal, two_operands, one_operand, no_operand, normal, execute_monadic, execute_niladic, execute_normal, execute}
use Rattle.run_spec.specs.Run.{is_kcall}
use Rattle.invariants.proofs.RuleLaws.{Rules, Value, Part, bind, more, gives}
use Rattle.invariants.proofs.OperandLaws.{OperandFits}
use Rattle.invariants.proofs.DyadicLaws.{dyadic_part}
use Rattle.invariants.proofs.FlowLaws.{jump_part, jump_if_part, call_part, load_address_part, return_part, released_holds, test_holds, guard_holds, advanced_holds}
use Rattle.invariants.proofs.StackLaws.{enter_part, catch_part}
use Rattle.invariants.proofs.FrameLaws.{kcall_part, kret_part, cret_part, privileged_part}

-- constants that are words
abbrev pub NormalFits : Normal → Type 0
NormalFits (two_operands w t s d) = OperandFits w s × OperandFits w d
NormalFits (one_operand o m v) = v < 2 ^ 32
NormalFits (no_operand o) = Unit

module _ (k : Rules) where
  -- KCALL makes a frame at once
  monadic_part : (c : Cpu) (o : Monadic) (m : MonadicMode) (v n : ℕ) → k.Holds c → Value k v → (is_kcall (one_operand o m v) ≡ true → k.Free)
      → Part k k.Holds 69 (execute_monadic c o m v n)
  unfolding execute_monadic
  monadic_part c monadic.Kcall m v n h f g = more 69 (omega arith) (kcall_part k (g refl) c m v n h f)
  monadic_part c monadic.Call m v n h f g = more 69 (omega arith) (call_part k c m v n h f)
  monadic_part c monadic.Return m v n h f g = more 69 (omega arith) (return_part k c v h)
  monadic_part c monadic.Jmp m v n h f g = more 69 (omega arith) (jump_part k c m v h f)
  monadic_part c monadic.JmpFalse m v n h f g = more 69 (omega arith) (jump_if_part k (not (psw_bit c flag_bit)) c m v n h f)
  monadic_part c monadic.JmpTrue m v n h f g = more 69 (omega arith) (jump_if_part k (psw_bit c flag_bit) c m v n h f)
  monadic_part c monadic.Catch m v n h f g = more 69 (omega arith) (catch_part k c m v n h f)
  monadic_part c monadic.Enter m v n h f g = more 69 (omega arith) (enter_part k c m v n h f)
  monadic_part c monadic.Ldraa m v n h f g = more 69 (omega arith) (load_address_part k c m v n h f)
  monadic_part c monadic.Flush m v n h f g = gives (advanced_holds k c n h)
  monadic_part c monadic.Popn m v n h f g = gives (advanced_holds k _ n (released_holds k c v h))

  niladic_part : (c : Cpu) (o : Niladic) (n : ℕ) → k.Holds c → Part k k.Holds 69 (execute_niladic c o n)
  unfolding execute_niladic
  niladic_part c niladic.Kret n h = more 69 (omega arith) (privileged_part k c 2 (kret c) h (λ free. kret_part k free c h))
  niladic_part c niladic.Cret n h = privileged_part k c 69 (cret c) h (λ free. cret_part k free c h)
  niladic_part c niladic.Nop n h = gives (advanced_holds k c n h)
  niladic_part c niladic.Testv n h = gives (advanced_holds k _ n (test_holds k c overflow_bit tt (omega arith) h))
  niladic_part c niladic.Testc n h = gives (advanced_holds k _ n (test_holds k c carry_bit tt (omega arith) h))
  niladic_part c niladic.Clre n h = gives (advanced_holds k _ n (guard_holds k c false h))

  normal_part : (c : Cpu) (n : ℕ) (i : Normal) → k.Holds c → NormalFits i → (is_kcall i ≡ true → k.Free) → Part k k.Holds 69 (execute_normal c n i)
  unfolding execute_normal
  normal_part c n (two_operands w t s d) h f g =
      more 69 (omega arith) (bind (dyadic_part k c w t s d h f.0 f.1) λ e y. gives {n = 0} (advanced_holds k e n y))
  normal_part c n (one_operand o m v) h f g = monadic_part c o m v n h (λ _. f) g
  normal_part c n (no_operand o) h f g = niladic_part c o n h

  pub execute_part : (c : Cpu) (i : Instruction) (n : ℕ) → k.Holds c → NormalFits (normal i) → (is_kcall (normal i) ≡ true → k.Free)
      → Part k k.Holds 69 (execute c i n)
  unfolding execute
  execute_part c i n h f g = normal_part c n (normal i) h f g
