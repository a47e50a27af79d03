-- Signed numbers of 32-bit words, on ℕ: a word from 2 ^ 31 on stands for itself less 2 ^ 32 (manual 1.2, 1.8.2).
-- ℕ has no negative numbers, so a signed number is given plus 2 ^ 31, or as its sign and its magnitude.
-- Assumes nothing.
use Rattle.std.specs.Prelude.{ℕ, ◌+◌, ◌-◌, ◌%◌, ◌^◌, Bool, cond, not, ◌||◌, nat_le, nat_lt}
use Rattle.std.specs.Bool.{beq}

-- the signed number of a word, plus 2 ^ 31
abbrev pub biased : ℕ → ℕ
biased x = (x + 2 ^ 31) % 2 ^ 32

-- of a number n, given as n + 2 ^ 32: n < -2 ^ 31 or 2 ^ 31 - 1 < n, so that it is no signed word (1.8.2)
abbrev pub outside : ℕ → Bool
outside n = nat_lt n (2 ^ 32 - 2 ^ 31) || nat_lt (2 ^ 32 + 2 ^ 31 - 1) n

-- the sign and the magnitude of a word's signed number
abbrev pub negative_of : ℕ → Bool
negative_of x = nat_le (2 ^ 31) x

abbrev pub magnitude_of : ℕ → ℕ
magnitude_of x = cond (negative_of x) (2 ^ 32 - x) x

-- the word of a sign and a magnitude, modulo 2 ^ 32
abbrev pub with_sign : Bool → ℕ → ℕ
with_sign negative n = cond negative ((2 ^ 32 - n) % 2 ^ 32) n

-- whether two words have different signs: then their product and quotient are negative
abbrev pub differ_of : ℕ → ℕ → Bool
differ_of b a = not (beq (negative_of b) (negative_of a))

-- the largest magnitude of a signed word with this sign
abbrev pub limit_of : Bool → ℕ
limit_of negative = cond negative (2 ^ 31) (2 ^ 31 - 1)
