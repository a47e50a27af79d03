-- Sums, differences and comparisons of words with their carry and overflow, on ℕ (manual 1.8.1, 1.8.2; 3.3 ADD, SUB, CMP).
-- Assumes nothing.
use Rattle.std.specs.Prelude.{ℕ, ◌+◌, ◌-◌, ◌%◌, ◌^◌, Bool, ◌==◌, nat_lt}
use Rattle.word.specs.declared.Sum.{Sum}
use Rattle.word.specs.Signed.{biased, outside}

-- a + b and a - b, modulo 2 ^ 32
abbrev pub plus_of : ℕ → ℕ → ℕ
plus_of a b = (a + b) % 2 ^ 32

abbrev pub minus_of : ℕ → ℕ → ℕ
minus_of a b = (a + (2 ^ 32 - b)) % 2 ^ 32

-- ADD (1.8.1, 1.8.2): C if the unsigned sum exceeds 0xFFFFFFFF, V if the signed sum is no signed word
unfoldable pub add_of : ℕ → ℕ → Sum
add_of b a = record { value = plus_of b a; carry = nat_lt 0xFFFF_FFFF (b + a); overflow = outside (biased b + biased a) }

-- SUB: a subtracted from b; C if there is a borrow, b < a unsigned; V if the signed difference is no signed word
unfoldable pub sub_of : ℕ → ℕ → Sum
sub_of b a = record { value = minus_of b a; carry = nat_lt b a; overflow = outside (biased b + 2 ^ 32 - biased a) }

-- CMPEQ, CMPGT (signed), CMPHI (unsigned): src1 rel src2, where src1 is the source operand and src2 the destination operand
abbrev pub equal_of : ℕ → ℕ → Bool
equal_of s d = s == d

abbrev pub greater_of : ℕ → ℕ → Bool
greater_of s d = nat_lt (biased d) (biased s)

abbrev pub higher_of : ℕ → ℕ → Bool
higher_of s d = nat_lt d s
