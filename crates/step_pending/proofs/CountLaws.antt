-- Laws of the timers' tests.
-- Assumes nothing.
use mathlib.Core.Path.{◌≡◌}
use mathlib.Core.Bool.{Bool, not, ◌&&◌, ◌||◌}
use Prim.Native.Nat.{ℕ}
use lib.Dec.{eqb}
use Rattle.word.specs.Fields.{bit_of, field_of}
use Rattle.step_spec.specs.Timers.{counts1, counts2}

pub first_counts : (k : ℕ) (kernel completed x y : Bool) → x ≡ bit_of k 23 → y ≡ bit_of k 22
    → ((not x || kernel) && (not y || completed)) ≡ counts1 k kernel completed
first_counts k kernel completed x y e f = rw (e, f)

pub second_counts : (k n : ℕ) (kernel completed x : Bool) → n ≡ field_of k 25 5 → x ≡ bit_of k 30
    → ((not x || kernel) && (eqb n 0 || (eqb n 1 && completed))) ≡ counts2 k kernel completed
second_counts k n kernel completed x e f = rw (e, f)
