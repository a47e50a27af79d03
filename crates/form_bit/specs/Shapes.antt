-- What the bit between three and five parcels leaves of the decoder's answer, and what it may change (request (d)).
use Rattle.std.specs.Prelude.{ℕ, ◌%◌, ◌≡◌, Bool, Ok, Err}
use Rattle.isa.specs.declared.ShortRow.{ShortRow}
use Rattle.isa.specs.declared.DyadicRow.{DyadicRow}
use Rattle.isa.specs.declared.MonadicRow.{MonadicRow}
use Rattle.isa.specs.declared.MonadicMode.{MonadicMode}
use Rattle.isa.specs.declared.ModeEntry.{ModeEntry}
use Rattle.isa.specs.declared.ModeEntry.TheVariants as mode
use Rattle.isa.specs.declared.Operand.{Operand}
use Rattle.isa.specs.declared.Operand.TheVariants as operand
use Rattle.isa.specs.declared.Wide.TheVariants.{Five}
use Rattle.isa.specs.declared.Instruction.TheVariants as instruction
use Rattle.isa.specs.declared.Undecoded.TheVariants as answer
use Rattle.isa.specs.Answers.{with_length, Decoded}
use Rattle.isa.specs.Decode.{extended}

-- an operand's mode in Tables 1-21 and 1-22, without its value
abbrev pub mode_of : Operand → ModeEntry
mode_of (operand.General m v) = mode.General m
mode_of (operand.Register n) = mode.Register

-- the kind of an answer, and of an instruction its row, prefix and modes: all but form, length and the operands' values
pub data Shape : Type 0 where
  short_shape : ShortRow → Shape
  dyadic_shape : DyadicRow → Bool → ModeEntry → ModeEntry → Shape
  monadic_shape : MonadicRow → Bool → MonadicMode → Shape
  illegal_shape : Shape
  unimplemented_shape : ℕ → Shape
  truncated_shape : Shape

abbrev pub shape_of : Decoded → Shape
shape_of (Ok (instruction.Short i, n)) = short_shape i.row
shape_of (Ok (instruction.Dyadic i, n)) = dyadic_shape i.row i.prefix (mode_of i.source) (mode_of i.destination)
shape_of (Ok (instruction.Monadic i, n)) = monadic_shape i.row i.prefix i.mode
shape_of (Err answer.Illegal) = illegal_shape
shape_of (Err (answer.Unimplemented v)) = unimplemented_shape v
shape_of (Err answer.Truncated) = truncated_shape

-- the same instruction at five parcels; an answer that has no such form stays
abbrev pub at_five : Decoded → Decoded
at_five (Ok (instruction.Short i, n)) = Ok (instruction.Short i, n)
at_five (Ok (instruction.Dyadic i, n)) =
    with_length
    (instruction.Dyadic (record { row = i.row; wide = Five; prefix = i.prefix; source = i.source; destination = i.destination }))
at_five (Ok (instruction.Monadic i, n)) = Ok (instruction.Monadic i, n)
at_five (Err answer.Illegal) = Err answer.Illegal
at_five (Err (answer.Unimplemented v)) = Err (answer.Unimplemented v)
at_five (Err answer.Truncated) = Err answer.Truncated

-- 1.6.2 and 1.7: y, of 32 bits, extends x, of 16, in a mode: immediates and offsets by their sign, absolute addresses by zeros;
-- of a register's number bits 3:0 count
abbrev pub Extends : ModeEntry → ℕ → ℕ → Type 0
Extends (mode.General m) x y = y ≡ extended m x
Extends mode.Register x y = y % 16 ≡ x % 16
Extends mode.Unlisted x y = Unit {0}
