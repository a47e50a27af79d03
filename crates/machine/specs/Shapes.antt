-- What a bank and a cache of the code always are, for laws that need it.
-- Assumes nothing.
use Rattle.std.specs.Prelude.{◌≡◌, [], ℕ, ◌≤◌, ◌<◌, length, get_or}
use Rattle.machine.specs.Registers.{Bank, word, bank_size, trace_due}
use Rattle.machine.specs.Cache.{Cache}

-- a bank of all its words, each of what is due 1 or 0
pub record BankShape (b : Bank) : Type 0 where
  pub long : length b ≡ bank_size
  pub due : (k : ℕ) → trace_due ≤ k → word b k ≤ 1

-- sixteen quad-words of four words each
pub record CacheShape (q : Cache) : Type 0 where
  pub long : length q ≡ 16
  pub four : (i : ℕ) → i < 16 → length (get_or q i []) ≡ 4
