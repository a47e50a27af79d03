-- Fields and bits of a word, on ℕ.
-- Assumes nothing.
use Rattle.std.specs.Prelude.{ℕ, ◌+◌, ◌*◌, ◌/◌, ◌%◌, ◌^◌, Bool, ◌==◌}

-- count bits of x from bit low up
abbrev pub field_of : ℕ → ℕ → ℕ → ℕ
field_of x low count = x / 2 ^ low % 2 ^ count

abbrev pub bit_of : ℕ → ℕ → Bool
bit_of x n = x / 2 ^ n % 2 == 1

-- x with the digit d at bit n
abbrev pub put_of : ℕ → ℕ → ℕ → ℕ
put_of x n d = (x / 2 ^ n / 2 * 2 + d) * 2 ^ n + x % 2 ^ n

-- x with bit n set
abbrev pub set_of : ℕ → ℕ → ℕ
set_of x n = put_of x n 1

-- a word of two halves
abbrev pub joined_of : ℕ → ℕ → ℕ
joined_of high low = high * 65536 + low

-- x with its low n bits 0
abbrev pub cleared_of : ℕ → ℕ → ℕ
cleared_of x n = x / 2 ^ n * 2 ^ n
