-- A field at bit 0, as the low bits of a number.
-- Assumes nothing.
use Prim.Native.Nat.{ℕ, ◌/◌, ◌%◌, ◌^◌}
use mathlib.Core.Path.{◌≡◌, ◌∙◌}
use native.Mathlib.Nat.{div-one}

pub low_bits_law : (x k r : ℕ) → r ≡ x / 2 ^ 0 % 2 ^ k → r ≡ x % 2 ^ k
low_bits_law x k r e = e ∙ simp div-one
