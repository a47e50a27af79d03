-- A long form calls for parcels after the first; the length of a dyadic is its form's and its prefix's.
-- Assumes nothing.
use Prim.Native.Nat.{ℕ, ◌+◌, ◌≤◌}
use mathlib.Core.Path.{◌≡◌}
use native.Mathlib.Omega.{arith}
use Rattle.isa.specs.declared.Wide.{Wide}
use Rattle.isa.specs.declared.Wide.TheVariants.{Three, Five}
use Rattle.isa.specs.declared.DyadicInstruction.{DyadicInstruction}
use Rattle.isa.specs.declared.Instruction.{Instruction}
use Rattle.isa.specs.declared.Instruction.TheVariants.{Dyadic}
use Rattle.isa.specs.Lengths.{wide_length, prefix_length, length_of}

pub wide_positive : (w : Wide) (a : ℕ) → a ≡ wide_length w → 1 ≤ a
wide_positive Three a e = omega (arith, e)
wide_positive Five a e = omega (arith, e)

pub dyadic_length : (i : Instruction) (j : DyadicInstruction) (a b : ℕ) → i ≡ Dyadic j → a ≡ wide_length j.wide → b ≡ prefix_length j.prefix
    → a + b ≡ length_of i
dyadic_length i j a b e f g = rw (e, f, g)
