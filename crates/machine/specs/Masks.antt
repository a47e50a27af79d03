-- The bits that a register keeps, as a mask.
-- Assumes nothing.
use Rattle.std.specs.Prelude.{ℕ, ◌+◌, ◌-◌, ◌^◌, get_or}
use Rattle.machine.specs.Registers.{low_bits, bit_counts}

abbrev pub mask_of : ℕ → ℕ
mask_of k = 2 ^ (get_or bit_counts k 32 + get_or low_bits k 0) - 2 ^ get_or low_bits k 0
