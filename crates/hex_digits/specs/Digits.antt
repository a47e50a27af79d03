-- Upper-case hexadecimal digits: which bytes they are, the number of several, and the digits of a number.
-- Assumes nothing.
use Rattle.std.specs.Prelude.{ℕ, zero, suc, ◌+◌, ◌-◌, ◌*◌, ◌/◌, ◌%◌, ◌^◌, Bool, true, cond, ◌&&◌, ◌||◌, List, [], ◌∷◌, get_or, leb, ltb}

-- 0 to 9 are the bytes 48 to 57, A to F the bytes 65 to 70
abbrev pub is_decimal : ℕ → Bool
is_decimal b = leb 48 b && leb b 57

abbrev pub is_letter : ℕ → Bool
is_letter b = leb 65 b && leb b 70

abbrev pub is_digit : ℕ → Bool
is_digit b = is_decimal b || is_letter b

abbrev pub all_digits : List ℕ → Bool
all_digits [] = true
all_digits (b ∷ s) = is_digit b && all_digits s

-- a digit's number; any other byte has 0
unfoldable pub digit_of : ℕ → ℕ
digit_of b = cond (is_decimal b) (b - 48) (cond (is_letter b) (b - 55) 0)

-- the number of the n digits from i on, most significant first
abbrev pub number_at : ℕ → List ℕ → ℕ → ℕ
number_at zero s i = 0
number_at (suc n) s i = number_at n s i * 16 + digit_of (get_or s (i + n) 0)

-- the digit of a number below 16
unfoldable pub digit_byte : ℕ → ℕ
digit_byte d = cond (ltb d 10) (48 + d) (55 + d)

-- the low n digits of a number, most significant first
abbrev pub digits : ℕ → ℕ → List ℕ
digits zero x = []
digits (suc n) x = digit_byte (x / 16 ^ n % 16) ∷ digits n x
