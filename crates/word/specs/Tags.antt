-- Tagged sums and differences, on ℕ (manual 1.8.4, 3.3 TADD and TSUB). With a bad tag the operation lines decide.
-- Assumes nothing.
use Rattle.std.specs.Prelude.{ℕ, ◌%◌, Bool, true, false, cond, not, ◌||◌, ◌==◌}
use Rattle.word.specs.declared.Sum.{Sum}
use Rattle.word.specs.declared.Tagged.{Tagged}
use Rattle.word.specs.Sums.{add_of, sub_of}

-- (src[1:0] != 0x0) || (dst[1:0] != 0x0)
abbrev pub bad_tag_of : ℕ → ℕ → Bool
bad_tag_of b a = not (a % 4 == 0) || not (b % 4 == 0)

-- good tags: C and V are the result's, F is V, and the result is stored if F is 0
abbrev pub checked_of : ℕ → Sum → Tagged
checked_of b s =
    record {
      value = cond s.overflow b s.value;
      stored = not s.overflow;
      carry = s.carry;
      overflow = s.overflow;
      flag = s.overflow;
    }

-- a bad tag: F is 1, and the destination, C and V are kept
abbrev pub tagged_of : ℕ → ℕ → Bool → Bool → Sum → Tagged
tagged_of b a carry overflow s =
    cond (bad_tag_of b a) (record { value = b; stored = false; carry = carry; overflow = overflow; flag = true }) (checked_of b s)

-- TADD and TSUB of a destination b and a source a, with C and V as they were
unfoldable pub tagged_add_of : ℕ → ℕ → Bool → Bool → Tagged
tagged_add_of b a carry overflow = tagged_of b a carry overflow (add_of b a)

unfoldable pub tagged_sub_of : ℕ → ℕ → Bool → Bool → Tagged
tagged_sub_of b a carry overflow = tagged_of b a carry overflow (sub_of b a)
