-- Bounds of products, of what is left modulo a power of two, and of arithmetic shifts.
-- Assumes nothing.
use mathlib.Core.Path.{subst⁻¹}
use Rattle.std.proofs.Common.{ℕ, ◌+◌, ◌*◌, ◌%◌, ◌^◌, ◌<◌, ◌≤◌, leb, lt_of_le_of_lt, le_of_lt, mod-lt, mul-le-mul_left, mul-lt-mul_of_pos_right, arith, pow_pos, pow-add}
use Rattle.word.proofs.CaseLaws.{by_test}
use lib.Pow.{shr_le, shr_mono}
use Rattle.word.specs.Shifts.{shr_of, ushr_of}

-- the product of two numbers of k bits has at most k + k
pub product_lt : (k : ℕ) {a b : ℕ} → a < 2 ^ k → b < 2 ^ k → a * b < 2 ^ (k + k)
product_lt k {a} {b} ha hb =
    subst⁻¹ (λ (n : ℕ). a * b < n) (pow-add 2 k k)
    (lt_of_le_of_lt (mul-le-mul_left a (le_of_lt hb)) (mul-lt-mul_of_pos_right ha (pow_pos k)))

-- what is left modulo 2 ^ k is below it
pub low_lt : (k x : ℕ) → x % 2 ^ k < 2 ^ k
low_lt k x = mod-lt x (pow_pos k)

pub shr_lt : (b a : ℕ) → b < 2 ^ 32 → shr_of b a < 2 ^ 32
shr_lt b a h =
    let m : ushr_of b a ≤ ushr_of 0xFFFF_FFFF a = shr_mono (a % 32) (omega arith) in
    let t : ushr_of 0xFFFF_FFFF a ≤ 0xFFFF_FFFF = shr_le 0xFFFF_FFFF (a % 32) in
    by_test (leb (2 ^ 31) b) (λ e. simp e (omega arith)) (λ e. simp e (omega arith))
