-- The answer that a plan stands for: what its instruction does, and the length that it carries.
-- Assumes nothing.
use Prim.Native.Nat.{ℕ}
use mathlib.Core.Path.{◌≡◌, refl, ap}
use mathlib.Core.Bool.{true}
use native.Mathlib.Omega.{arith}
use Rattle.isa.specs.declared.Undecoded.TheVariants.{Illegal, Unimplemented, Truncated}
use Rattle.isa.specs.declared.Instruction.{Instruction}
use Rattle.isa.specs.declared.Operand.TheVariants.{General, Register}
use Rattle.exec_spec.specs.Execute.{Normal, two_operands, one_operand, no_operand, normal}
use Rattle.fast_decode.specs.Plans.{planned, plan_of, is_plan, normal_of, plan_length}
use Rattle.std.specs.Prelude.{Ok, Err}
use Rattle.isa.specs.Answers.{Decoded}

-- an answer that is an instruction of l parcels which does x
pub record Does (x : Normal) (l : ℕ) (a : Decoded) : Type 0 where
  pub instruction : Instruction
  pub is : a ≡ Ok (instruction, l)
  pub does : normal instruction ≡ x

normal_is : (n : Normal) (l : ℕ) → is_plan (planned n l) ≡ true → (n ≡ normal_of (planned n l)) × (l ≡ plan_length (planned n l))
normal_is (two_operands w t (General a s) (General b d)) l h = (refl, refl)
normal_is (two_operands w t (General a s) (Register k)) l h = let z : ◌≡◌ {A = ℕ} 0 1 = cc in absurd (omega arith)
normal_is (two_operands w t (Register k) (General b d)) l h = let z : ◌≡◌ {A = ℕ} 0 1 = cc in absurd (omega arith)
normal_is (two_operands w t (Register k) (Register j)) l h = let z : ◌≡◌ {A = ℕ} 0 1 = cc in absurd (omega arith)
normal_is (one_operand o m v) l h = (refl, refl)
normal_is (no_operand o) l h = let z : ◌≡◌ {A = ℕ} 0 1 = cc in absurd (omega arith)

pub answer_does : (a : Decoded) → is_plan (plan_of a) ≡ true → Does (normal_of (plan_of a)) (plan_length (plan_of a)) a
answer_does (Ok (i, l)) h =
    record { instruction = i; is = ap (λ (k : ℕ). Ok (i, k)) (normal_is (normal i) l h).1; does = (normal_is (normal i) l h).0 }
answer_does (Err Illegal) h = let z : ◌≡◌ {A = ℕ} 0 1 = cc in absurd (omega arith)
answer_does (Err (Unimplemented v)) h = let z : ◌≡◌ {A = ℕ} 0 1 = cc in absurd (omega arith)
answer_does (Err Truncated) h = let z : ◌≡◌ {A = ℕ} 0 1 = cc in absurd (omega arith)
