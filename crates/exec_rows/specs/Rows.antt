-- One-parcel rows without their operands, and instructions, in the code's types.
-- Assumes nothing.
use Rattle.std.specs.Prelude.{ℕ}
use Rattle.isa.specs.declared.Operand.TheVariants.{General}
use Rattle.isa.specs.declared.Wide.TheVariants.{Five}
use Rattle.exec_spec.specs.Execute.{Normal, two_operands, one_operand, no_operand}
use Rattle.exec_rows.specs.declared.Action.{Action}
use Rattle.exec_rows.specs.declared.Action.TheVariants as act
use Rattle.exec_rows.specs.declared.ShortForm.{ShortForm}
use Rattle.exec_rows.specs.declared.ShortForm.TheVariants.{Two, One, Zero}

-- with source s and destination d
abbrev pub formed : ShortForm → ℕ → ℕ → Normal
formed (Two t a b) s d = two_operands Five t (General a s) (General b d)
formed (One o m) s d = one_operand o m s
formed (Zero o) s d = no_operand o

-- an instruction without its encoding
abbrev pub action_of : Action → Normal
action_of (act.Two w t s d) = two_operands w t s d
action_of (act.One o m v) = one_operand o m v
action_of (act.Zero o) = no_operand o
