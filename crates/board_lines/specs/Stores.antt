-- Frame 02: the bytes of a line into memory.
-- Assumes nothing.
use Rattle.std.specs.Prelude.{ℕ, zero, suc, ◌+◌, ◌-◌, ◌*◌, ◌/◌, cond, List, length, nat_le, slice_set}
use Rattle.hex_digits.specs.Digits.{number_at}

-- refusal 8, "off the board": the bytes reach past the end of memory, a plain sum
abbrev pub outside_memory : ℕ
outside_memory = 8

-- how many bytes stand after kind and address
abbrev pub byte_count : List ℕ → ℕ
byte_count s = (length s - 10) / 2

-- memory with the first n bytes of a line from a on
abbrev pub bytes_stored : ℕ → List ℕ → List ℕ → ℕ → List ℕ
bytes_stored zero s m a = m
bytes_stored (suc n) s m a = slice_set (bytes_stored n s m a) (a + n) (number_at 2 s (10 + n * 2))

-- 0 or the refusal, and the memory after it
pub record StoreResult : Type 0 where
  pub refusal : ℕ
  pub memory : List ℕ

abbrev pub store_result : ℕ → List ℕ → StoreResult
store_result r m = record { refusal = r; memory = m }

unfoldable pub frame_store : List ℕ → List ℕ → ℕ → StoreResult
frame_store s m a = cond (nat_le (a + byte_count s) (length m)) (store_result 0 (bytes_stored (byte_count s) s m a)) (store_result outside_memory m)
