-- Products, quotients and remainders of words, on ℕ (manual 1.8.1 to 1.8.3).
-- On ℕ x / 0 is 0 and x % 0 is x. A step raises zero divide before it divides, so no instruction leaves these.
-- Assumes nothing.
use Rattle.std.specs.Prelude.{ℕ, ◌*◌, ◌/◌, ◌%◌, ◌^◌, ◌&&◌, ◌==◌, nat_lt}
use Rattle.word.specs.declared.Sum.{Sum}
use Rattle.word.specs.declared.Quotient.{Quotient}
use Rattle.word.specs.Signed.{negative_of, magnitude_of, with_sign, differ_of, limit_of}

-- MUL: C if the unsigned product exceeds 0xFFFFFFFF, V if the magnitude of the signed product exceeds what its sign allows
unfoldable pub mul_of : ℕ → ℕ → Sum
mul_of b a =
    record {
      value = b * a % 2 ^ 32;
      carry = nat_lt 0xFFFF_FFFF (b * a);
      overflow = nat_lt (limit_of (differ_of b a)) (magnitude_of b * magnitude_of a);
    }

-- UDIV, UREM: b by a
abbrev pub udiv_of : ℕ → ℕ → ℕ
udiv_of b a = b / a

abbrev pub urem_of : ℕ → ℕ → ℕ
urem_of b a = b % a

-- DIV and REM: b by a, truncated toward zero, so that magnitudes are divided; the remainder has the dividend's sign.
-- V in precisely the case of 0x80000000 divided by 0xFFFFFFFF (1.8.2).
unfoldable pub div_of : ℕ → ℕ → Quotient
div_of b a =
    record {
      value = with_sign (differ_of b a) (udiv_of (magnitude_of b) (magnitude_of a));
      rest = with_sign (negative_of b) (urem_of (magnitude_of b) (magnitude_of a));
      overflow = b == 0x8000_0000 && (a == 0xFFFF_FFFF);
    }
