-- Motorola S-records by their lines (request (j)): "A record is S, one of these types, then in upper-case hexadecimal count, address,
-- data (none in S5, S7, S8, S9) and checksum, ended as a frame."
-- Assumes nothing.
use Rattle.std.specs.Prelude.{ℕ, ◌+◌, ◌-◌, ◌*◌, ◌%◌, Bool, cond, ◌&&◌, List, [], ◌∷◌, length, take, drop, ◌==◌, nat_le, slice_index}
use Rattle.hex_digits.specs.Digits.{is_decimal, digit_of, all_digits, number_at}

-- ---- the types, by their bytes: "0" is 48

abbrev pub record_type : List ℕ → ℕ
record_type s = slice_index s 1

-- how many bytes the address has, for S0 to S9; S4 and S6 are no types
abbrev pub address_sizes : List ℕ
address_sizes = 2 ∷ 2 ∷ 3 ∷ 4 ∷ 0 ∷ 2 ∷ 0 ∷ 4 ∷ 3 ∷ 2 ∷ []

unfoldable pub address_bytes : ℕ → ℕ
address_bytes t = cond (is_decimal t) (slice_index address_sizes (t - 48)) 0

-- S1, S2 and S3: "data records"
abbrev pub is_data_type : ℕ → Bool
is_data_type t = nat_le 49 t && nat_le t 51

-- "data (none in S5, S7, S8, S9)"
abbrev pub may_have_data : ℕ → Bool
may_have_data t = nat_le t 51

-- ---- the count: of the bytes that follow it, which are address, data and checksum

abbrev pub record_count : List ℕ → ℕ
record_count s = number_at 2 s 2

unfoldable pub is_count : ℕ → ℕ → Bool
is_count t n = nat_le 1 (address_bytes t) && cond (may_have_data t) (nat_le (address_bytes t + 1) n) (n == address_bytes t + 1)

-- "S"
abbrev pub letter_s : ℕ
letter_s = 83

-- a record, be its checksum right or wrong
unfoldable pub is_record : List ℕ → Bool
is_record s = slice_index s 0 == letter_s && length s == 4 + 2 * record_count s && is_count (record_type s) (record_count s) && all_digits (drop 2 s)

-- ---- "The checksum is the ones' complement of the low byte of the sum of count, address and data bytes"

-- the bytes of digits, two each
unfoldable pub digit_bytes : List ℕ → List ℕ
digit_bytes [] = []
digit_bytes (a ∷ []) = []
digit_bytes (a ∷ (b ∷ d)) = (digit_of a * 16 + digit_of b) ∷ digit_bytes d

unfoldable pub byte_sum : List ℕ → ℕ
byte_sum [] = 0
byte_sum (b ∷ l) = b + byte_sum l

abbrev pub checksum_of : List ℕ → ℕ
checksum_of d = 255 - byte_sum (digit_bytes d) % 256

-- the digits of count, address and data
abbrev pub record_body : List ℕ → List ℕ
record_body s = take (length s - 4) (drop 2 s)

-- ---- "Refused: 13, any other line; 14, a wrong checksum"

abbrev pub malformed_record : ℕ
malformed_record = 13

abbrev pub wrong_checksum : ℕ
wrong_checksum = 14

unfoldable pub record_refusal : List ℕ → ℕ
record_refusal s =
    cond (is_record s) (cond (number_at 2 s (length s - 2) == checksum_of (record_body s)) 0 wrong_checksum) malformed_record

-- ---- what a record says

abbrev pub record_address : List ℕ → ℕ
record_address s = number_at (address_bytes (record_type s) * 2) s 4

-- the digits of its data
abbrev pub record_data : List ℕ → List ℕ
record_data s = drop (2 + address_bytes (record_type s) * 2) (record_body s)
