-- Laws of operands by their modes.
-- Assumes nothing.
use mathlib.Core.Path.{◌≡◌, sym, ◌∙◌}
use mathlib.Core.Bool.{Bool, true, false}
use Prim.Native.Nat.{ℕ, ◌*◌, ◌/◌, ◌^◌}
use Rattle.word.specs.declared.Width.{Width}
use Rattle.word.specs.Sums.{plus_of}
use Rattle.word.specs.Widths.{bits_of, sign_extend_of}
use Rattle.word.specs.Fields.{bit_of}
use Rattle.isa.specs.declared.Mode.{Mode}
use Rattle.isa.specs.declared.Wide.{Wide}
use Rattle.isa.specs.declared.Wide.TheVariants.{Three}
use Rattle.exec_spec.specs.Operands.{width_of, is_signed, expanded, absolute_on}

pub expanded_signed : (m : Mode) (w : Width) (x r : ℕ) (t : Bool) → t ≡ is_signed m → t ≡ true → w ≡ width_of m
    → r ≡ sign_extend_of (bits_of w) x → r ≡ expanded m x
expanded_signed m w x r t e h f g = g ∙ simp (sym e, h, f)

pub in_region : (k p b v r : ℕ) (w : Wide) (t : Bool) → w ≡ Three → t ≡ bit_of k 17 → t ≡ true
    → b ≡ p / 2 ^ 29 * 2 ^ 29 → r ≡ plus_of b v → r ≡ absolute_on k p w v
in_region k p b v r w t e f h i g = g ∙ simp (i, e, sym f, h)

pub in_low : (k p v : ℕ) (w : Wide) (t : Bool) → w ≡ Three → t ≡ bit_of k 17 → t ≡ false → v ≡ absolute_on k p w v
in_low k p v w t e f h = simp (e, sym f, h)
