-- What the decoder's answer does, with its length but without its encoding, where that is two operands that are no registers, or
-- one operand.
-- Assumes nothing.
use Rattle.std.specs.Prelude.{ℕ, Bool, true, false, Ok, Err}
use Rattle.isa.specs.declared.Undecoded.TheVariants.{Illegal, Unimplemented, Truncated}
use Rattle.isa.specs.declared.Operand.TheVariants.{General, Register}
use Rattle.exec_spec.specs.declared.Niladic.TheVariants.{Nop}
use Rattle.exec_spec.specs.Execute.{Normal, two_operands, one_operand, no_operand, normal}
use Rattle.fast_decode.specs.declared.Plan.{Plan}
use Rattle.fast_decode.specs.declared.Plan.TheVariants.{Two, One, Other}
use Rattle.isa.specs.Answers.{Decoded}

abbrev pub planned : Normal → ℕ → Plan
planned (two_operands w t (General a s) (General b d)) l = Two l w t a s b d
planned (two_operands w t (General a s) (Register n)) l = Other
planned (two_operands w t (Register n) (General b d)) l = Other
planned (two_operands w t (Register n) (Register k)) l = Other
planned (one_operand o m v) l = One l o m v
planned (no_operand o) l = Other

abbrev pub plan_of : Decoded → Plan
plan_of (Ok (i, l)) = planned (normal i) l
plan_of (Err Illegal) = Other
plan_of (Err (Unimplemented v)) = Other
plan_of (Err Truncated) = Other

-- whether there is one
abbrev pub is_plan : Plan → Bool
is_plan (Two l w t a s b d) = true
is_plan (One l o m v) = true
is_plan Other = false

-- what it does and how many parcels it has; where there is none nothing is said
abbrev pub normal_of : Plan → Normal
normal_of (Two l w t a s b d) = two_operands w t (General a s) (General b d)
normal_of (One l o m v) = one_operand o m v
normal_of Other = no_operand Nop

abbrev pub plan_length : Plan → ℕ
plan_length (Two l w t a s b d) = l
plan_length (One l o m v) = l
plan_length Other = 0
