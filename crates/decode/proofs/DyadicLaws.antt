-- The value of a 16-bit operand: its mode says whether it is extended, in the code's order as in isa's definition.
-- Assumes nothing.
use Prim.Native.Nat.{ℕ}
use mathlib.Core.Path.{◌≡◌, refl}
use mathlib.Core.Bool.{cond}
use Rattle.word.specs.Widths.{sign_extend_of}
use Rattle.isa.specs.declared.Mode.{Mode}
use Rattle.isa.specs.declared.Mode.TheVariants.{AbsoluteByte, AbsoluteUbyte, AbsoluteHalf, AbsoluteUhalf, StackByte, StackUbyte, StackHalf, StackUhalf, IndirectByte, IndirectUbyte, IndirectHalf, IndirectUhalf, AbsoluteWord, StackWord, IndirectWord, Immediate}
use Rattle.isa.specs.Decode.{extended}
use Rattle.decode.specs.Forms.{absolute_of}

pub by_absolute : (m : Mode) (x : ℕ) → extended m x ≡ cond (absolute_of m) x (sign_extend_of 16 x)
by_absolute AbsoluteByte x = refl
by_absolute AbsoluteUbyte x = refl
by_absolute AbsoluteHalf x = refl
by_absolute AbsoluteUhalf x = refl
by_absolute StackByte x = refl
by_absolute StackUbyte x = refl
by_absolute StackHalf x = refl
by_absolute StackUhalf x = refl
by_absolute IndirectByte x = refl
by_absolute IndirectUbyte x = refl
by_absolute IndirectHalf x = refl
by_absolute IndirectUhalf x = refl
by_absolute AbsoluteWord x = refl
by_absolute StackWord x = refl
by_absolute IndirectWord x = refl
by_absolute Immediate x = refl
