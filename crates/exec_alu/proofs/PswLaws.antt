-- Laws of the PSW's bits.
-- Assumes nothing.
use mathlib.Core.Path.{◌≡◌}
use mathlib.Core.Bool.{Bool, true, false, not}
use Prim.Native.Nat.{ℕ, ◌-◌, ◌*◌, ◌/◌, ◌%◌, ◌^◌, ◌≤◌, ◌<◌}
use native.Mathlib.Nat.{one-mul, zero-mul, add-mul}
use native.Mathlib.Omega.{arith}
use Rattle.word.specs.Fields.{bit_of, set_of}
use Rattle.word.proofs.FieldLaws.{shl_one}
use Rattle.machine.specs.Bits.{flag_bit}
use Rattle.exec_spec.specs.Alu.{bit_digit, with_bit_as}
use Rattle.exec_spec.specs.Control.{tested_of}

-- the bit set is at least what is taken off
taken_at : (x n : ℕ) (b : Bool) → n < 32 → bit_digit (not b) * 2 ^ n % 2 ^ 32 ≤ set_of x n
taken_at x n true h = rw (zero-mul (2 ^ n)) (omega arith)
taken_at x n false h = rw (shl_one n h, add-mul) (omega (arith, one-mul (2 ^ n)))

laid_at : (x n : ℕ) (b : Bool) → n < 32 → set_of x n - bit_digit (not b) * 2 ^ n % 2 ^ 32 ≡ with_bit_as n b x
laid_at x n true h = rw (zero-mul (2 ^ n)) (omega arith)
laid_at x n false h =
    rw (shl_one n h)
    (omega (arith, add-mul (x / 2 ^ n / 2 * 2) 1 (2 ^ n), add-mul (x / 2 ^ n / 2 * 2) 0 (2 ^ n), one-mul (2 ^ n), zero-mul (2 ^ n)))

pub taken_fits : (x n d y : ℕ) (b : Bool) → d ≡ bit_digit (not b) → y ≡ set_of x (n % 32) → d * 2 ^ (n % 32) % 2 ^ 32 ≤ y
taken_fits x n d y b e f = rw (e, f) (taken_at x (n % 32) b (omega arith))

pub bit_laid : (x n d y : ℕ) (b : Bool) → d ≡ bit_digit (not b) → y ≡ set_of x (n % 32)
    → y - d * 2 ^ (n % 32) % 2 ^ 32 ≡ with_bit_as (n % 32) b x
bit_laid x n d y b e f = rw (e, f) (laid_at x (n % 32) b (omega arith))

pub bit_tested : (x n w r : ℕ) (p : Bool) → w ≡ with_bit_as n false x → p ≡ bit_of x n → r ≡ with_bit_as flag_bit p w → r ≡ tested_of x n
bit_tested x n w r p e f g = rw (g, e, f)
