-- Three and five parcels: the code's order of tests agrees with isa's definitions; the operand fields of a known form.
-- Assumes nothing.
use Prim.Native.Nat.{ℕ}
use mathlib.Core.Path.{◌≡◌}
use mathlib.Core.Bool.{Bool, cond}
use lib.Dec.{ltb}
use Rattle.std.specs.Prelude.{Err}
use Rattle.word.proofs.CaseLaws.{by_test}
use Rattle.isa.specs.declared.Wide.{Wide}
use Rattle.isa.specs.declared.Undecoded.TheVariants.{Truncated}
use Rattle.isa.specs.Lengths.{form_of, after_of}
use Rattle.isa.specs.Decode.{joined, decode_dyadic, decode_monadic, decode_three, decode_wide}
use Rattle.decode.specs.Forms.{monadic_form, first_of, second_of}

-- the operand fields of a known form
pub first_of_law : (w v : Wide) (a b r : ℕ) → w ≡ v → r ≡ first_of v a b → r ≡ first_of w a b
first_of_law w v a b r e h = rw e h

pub second_of_law : (w v : Wide) (b c d r : ℕ) → w ≡ v → r ≡ second_of v b c d → r ≡ second_of w b c d
second_of_law w v b c d r e h = rw e h

-- three and five parcels
module _ (pre : Bool) (n p a b c d : ℕ) where
  pub by_form : decode_wide pre n p a b c d
      ≡ cond (ltb n (after_of (form_of p))) (Err Truncated)
      (cond (monadic_form (form_of p) p) (decode_monadic pre p (joined a b))
      (decode_dyadic (form_of p) pre p (first_of (form_of p) a b) (second_of (form_of p) b c d)))
  unfolding decode_wide decode_three
  by_form = by_test (ltb p 0xC000) (λ e. simp e) (λ e. simp e)
