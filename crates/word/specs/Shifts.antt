-- Shifts of words, on ℕ (manual 3.3, SHL, SHR, USHR): only the low-order 5 bits of the source are the count.
-- AND, OR and XOR are bitAnd, bitOr and bitXor of lib.Bits.
-- Assumes nothing.
use Rattle.std.specs.Prelude.{ℕ, ◌+◌, ◌-◌, ◌*◌, ◌/◌, ◌%◌, ◌^◌, cond}
use Rattle.word.specs.Signed.{negative_of}

-- SHL: zeros from the right
abbrev pub shl_of : ℕ → ℕ → ℕ
shl_of b a = b * 2 ^ (a % 32) % 2 ^ 32

-- USHR: zeros from the left
abbrev pub ushr_of : ℕ → ℕ → ℕ
ushr_of b a = b / 2 ^ (a % 32)

-- SHR: copies of the sign bit from the left, in the places that a shift of all ones leaves empty
abbrev pub shr_of : ℕ → ℕ → ℕ
shr_of b a = ushr_of b a + cond (negative_of b) (0xFFFF_FFFF - ushr_of 0xFFFF_FFFF a) 0
