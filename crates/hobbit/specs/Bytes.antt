-- Bytes stored in a memory and loaded from it, or refusal 8 and all as it was.
-- Assumes nothing.
use Rattle.std.specs.Prelude.{ℕ, ◌+◌, Bool, cond, List, length, take, drop, leb}
use Rattle.memory.specs.Bytes.{Memory}
use Rattle.hex_digits.specs.Output.{written}
use Rattle.board_lines.specs.Stores.{StoreResult, store_result, outside_memory}

-- whether bytes from a on lie in memory
abbrev pub within : Memory → ℕ → List ℕ → Bool
within m a t = leb (a + length t) (length m)

unfoldable pub stored_at : Memory → ℕ → List ℕ → StoreResult
stored_at m a t = cond (within m a t) (store_result 0 (written m a t)) (store_result outside_memory m)

-- t is the room
unfoldable pub loaded_from : Memory → ℕ → List ℕ → StoreResult
loaded_from m a t = cond (within m a t) (store_result 0 (take (length t) (drop a m))) (store_result outside_memory t)
