-- Widths of operands (manual 1.2), each definition once over the number of bits k.
-- Assumes nothing.
use Rattle.std.specs.Prelude.{ℕ, ◌+◌, ◌-◌, ◌%◌, ◌^◌, cond, nat_le}
use Rattle.word.specs.declared.Width.{Width}
use Rattle.word.specs.declared.Width.TheVariants.{Byte, Half, Word}

-- the width in bits and in bytes
abbrev pub bits_of : Width → ℕ
bits_of Byte = 8
bits_of Half = 16
bits_of Word = 32

abbrev pub bytes_of : Width → ℕ
bytes_of Byte = 1
bytes_of Half = 2
bytes_of Word = 4

-- the least significant k bits: an unsigned operand's at 32 bits too, whose high-order bits are cleared
abbrev pub truncate_of : ℕ → ℕ → ℕ
truncate_of k x = x % 2 ^ k

-- a signed operand at 32 bits: copies of bit k - 1 above the low k bits
abbrev pub sign_extend_of : ℕ → ℕ → ℕ
sign_extend_of k x = truncate_of k x + cond (nat_le (2 ^ (k - 1)) (truncate_of k x)) (2 ^ 32 - 2 ^ k) 0
