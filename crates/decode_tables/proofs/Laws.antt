-- The rules and modes of an operand, found by cases.
-- Assumes nothing.
use Prim.Native.Nat.{ℕ}
use mathlib.Core.Path.{◌≡◌}
use mathlib.Core.Bool.{Bool}
use Rattle.std.specs.Prelude.{Option}
use Rattle.isa.specs.declared.MonadicRule.{MonadicRule}
use Rattle.isa.specs.declared.MonadicMode.{MonadicMode}
use Rattle.isa.specs.declared.Mode.{Mode}
use Rattle.isa.specs.declared.Operand.{Operand}
use Rattle.isa.specs.declared.Operand.TheVariants.{General}
use Rattle.isa.specs.declared.Rule.{Rule}
use Rattle.isa.specs.Legal.{of_mode, legal_of}
use Rattle.isa.specs.Tables.{monadic_mode_of}

pub mode_of_law : (u v : MonadicRule) (k : ℕ) (e : Option MonadicMode) → u ≡ v → e ≡ monadic_mode_of v k → e ≡ monadic_mode_of u k
mode_of_law u v k e g h = rw g h

pub of_mode_law : (f : Mode → Bool) (o : Operand) (m : Mode) (v : ℕ) (r : Bool) → o ≡ General m v → r ≡ f m → r ≡ of_mode f o
of_mode_law f o m v r e h = rw e h

pub legal_of_law : (u v : Rule) (s d : Operand) (r : Bool) → u ≡ v → r ≡ legal_of v s d → r ≡ legal_of u s d
legal_of_law u v s d r g h = rw g h
