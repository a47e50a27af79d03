-- The length in a block's words, and its mode among those of Table 1-23.
-- Assumes nothing.
use Prim.Native.Nat.{ℕ, ◌+◌, ◌<◌, ◌≤◌}
use mathlib.Core.Path.{◌≡◌, refl}
use lib.Dec.{eqb}
use borrow.Author.Tests.{lt-ltb, le-ltb}
use Rattle.std.specs.Prelude.{Option}
use Rattle.isa.specs.declared.MonadicRule.TheVariants as rule
use Rattle.isa.specs.declared.MonadicMode.{MonadicMode}
use Rattle.isa.specs.declared.Wide.{Wide}
use Rattle.isa.specs.Lengths.{wide_length, prefix_length}
use Rattle.isa.specs.Tables.{monadic_mode_of}
use Rattle.hobbit_blocks.specs.Numbering.{length_agrees, monadic_mode_in}

-- length_agrees
pub length_is : (f : Wide) (w p a b : ℕ) → a ≡ wide_length f → b ≡ prefix_length (eqb p 1) → eqb w (a + b) ≡ length_agrees f w p
length_is f w p a b e g = rw (e, g) refl

-- monadic_mode_in
module _ (k : ℕ) where
  pub flow_mode_law : (e : Option MonadicMode) → 4 ≤ k → k < 8 → e ≡ monadic_mode_of rule.Flow (k + 8) → e ≡ monadic_mode_in k
  flow_mode_law e h g f = rw (le-ltb k 4 h, lt-ltb k 8 g) f
