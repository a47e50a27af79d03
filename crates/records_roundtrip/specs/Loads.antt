-- What records and frames load: bytes at addresses, in order.
-- Assumes nothing.
use Rattle.std.specs.Prelude.{ℕ, ◌+◌, ◌%◌, ◌^◌, cond, List, [], ◌∷◌, ◌++◌, drop}
use Rattle.hex_digits.specs.Digits.{number_at}
use Rattle.records_lines.specs.Records.{record_type, is_data_type, digit_bytes, record_address, record_data}

pub record LoadedByte : Type 0 where
  pub address : ℕ
  pub byte : ℕ

abbrev pub loaded_byte : ℕ → ℕ → LoadedByte
loaded_byte a b = record { address = a; byte = b }

-- bytes from an address on, modulo 2^32
unfoldable pub loads_from : ℕ → List ℕ → List LoadedByte
loads_from a [] = []
loads_from a (b ∷ l) = loaded_byte a b ∷ loads_from ((a + 1) % 2 ^ 32) l

-- of a record: its data
abbrev pub record_loads : List ℕ → List LoadedByte
record_loads s = cond (is_data_type (record_type s)) (loads_from (record_address s) (digit_bytes (record_data s))) []

-- of a frame of kind 02: address and bytes
abbrev pub frame_loads : List ℕ → List LoadedByte
frame_loads s = loads_from (number_at 8 s 2) (digit_bytes (drop 10 s))

-- of lines, one after the other
abbrev pub loads_over : (List ℕ → List LoadedByte) → List (List ℕ) → List LoadedByte
loads_over f [] = []
loads_over f (s ∷ l) = f s ++ loads_over f l
