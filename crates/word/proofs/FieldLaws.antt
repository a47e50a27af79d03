-- Masks and shifts as quotients and remainders.
-- Assumes nothing.
use Rattle.std.proofs.Common.{◌≡◌, ℕ, zero, suc, ◌+◌, ◌-◌, ◌*◌, ◌/◌, ◌%◌, ◌^◌, ◌<◌, ◌≤◌, max, sym, ap, ◌∙◌, add-zero, mod-lt, mod-eq_of_lt, suc-mul, one-mul, pow-suc, zero-mul, arith, lit<, pow_pos, pow-add, shl_exact}
use native.Mathlib.Nat.{pow-zero}
use lib.Pow.{split}
use lib.Bits.{bit_and, bit_or, and_mask, or_step, or_zero_r, or_block, or_shifted}
use Rattle.word.specs.Fields.{field_of, set_of, joined_of, cleared_of}

-- n digits of k bits each are n * k bits
pub digits_pow : (k n : ℕ) → (2 ^ k) ^ n ≡ 2 ^ (n * k)
digits_pow k zero = pow-zero (2 ^ k) ∙ ap (λ (x : ℕ). 2 ^ x) (sym (zero-mul k))
digits_pow k (suc n) =
    let e : n * k + k ≡ suc n * k = sym (suc-mul n k) in
    pow-suc (2 ^ k) n ∙ ap (λ (x : ℕ). x * 2 ^ k) (digits_pow k n) ∙ sym (pow-add 2 (n * k) k) ∙ ap (λ (x : ℕ). 2 ^ x) e

-- 1 << n at 32 bits
pub shl_one : (n : ℕ) → n < 32 → 1 * 2 ^ n % 2 ^ 32 ≡ 2 ^ n
shl_one n h = shl_exact {a = 1} 1 n 32 (lit< tt) (omega arith) ∙ one-mul (2 ^ n)

pub ones_fit : (n : ℕ) → n < 32 → 1 ≤ 1 * 2 ^ n % 2 ^ 32
ones_fit n h = rw (shl_one n h) (pow_pos n)

pub field_masked : (x low count : ℕ) → count < 32 → bit_and (x / 2 ^ low) (1 * 2 ^ count % 2 ^ 32 - 1) ≡ field_of x low count
field_masked x low count h = rw (shl_one count h) (and_mask (x / 2 ^ low) count)

or_one : (q : ℕ) → bit_or q 1 ≡ q / 2 * 2 + 1
or_one q = or_step q 1 ∙ ap (λ (b : ℕ). b * 2 + max (q % 2) 1) (or_zero_r (q / 2)) ∙ omega arith

-- a bit set by | is a digit of the quotient made odd
or_bit : (x n : ℕ) → bit_or x (2 ^ n) ≡ set_of x n
or_bit x n =
    (λ i. bit_or (sym (split x n) i) ((sym (one-mul (2 ^ n)) ∙ sym (add-zero (1 * 2 ^ n))) i))
    ∙ or_block n (x / 2 ^ n) 1 (x % 2 ^ n) 0 (mod-lt x (pow_pos n)) (pow_pos n)
    ∙ (λ i. or_one (x / 2 ^ n) i * 2 ^ n + or_zero_r (x % 2 ^ n) i)

pub set_masked : (x n : ℕ) → n < 32 → bit_or x (1 * 2 ^ n % 2 ^ 32) ≡ set_of x n
set_masked x n h = rw (shl_one n h) (or_bit x n)

-- two halves of a word
pub joined_masked : (high low : ℕ) → high < 65536 → low < 65536 → bit_or (high * 65536 % 4294967296) low ≡ joined_of high low
joined_masked high low h l = rw (mod-eq_of_lt {n = high * 65536} {m = 4294967296} (omega arith)) (or_shifted high 16 low l)

-- the low bits shifted out and zeros in for them
pub cleared_shifted : (x n : ℕ) → x < 2 ^ 32 → x / 2 ^ n * 2 ^ n % 2 ^ 32 ≡ cleared_of x n
cleared_shifted x n h = mod-eq_of_lt {n = x / 2 ^ n * 2 ^ n} {m = 2 ^ 32} (omega (arith, split x n))

-- a field above one of n bits
pub placed_masked : (high n low : ℕ) → n < 32 → high < 2 ^ (32 - n) → low < 2 ^ n → bit_or (high * 2 ^ n % 2 ^ 32) low ≡ high * 2 ^ n + low
placed_masked high n low h g l = rw (shl_exact {a = high} (32 - n) n 32 g (omega arith)) (or_shifted high n low l)
