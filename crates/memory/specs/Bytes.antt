-- Physical memory as a list of bytes, and the numbers in it.
-- Assumes nothing.
use Rattle.std.specs.Prelude.{ℕ, zero, suc, ◌+◌, ◌*◌, ◌/◌, ◌%◌, Bool, cond, ◌&&◌, List, get_or, set, length, leb, eqb}
use Rattle.std.specs.Int.Bits.{bit_xor}
use Rattle.word.specs.declared.Width.{Width}
use Rattle.word.specs.declared.Width.TheVariants.{Byte, Half, Word}
use Rattle.memory.specs.Exceptions.{bus_fault}
use Rattle.memory.specs.Answers.{Answer, good, raised}

abbrev pub Memory : Type 0
Memory = List ℕ

abbrev pub byte_at : Memory → ℕ → ℕ
byte_at m a = get_or m a 0

-- the number of the n bytes from a, most significant first
abbrev pub number : ℕ → Memory → ℕ → ℕ
number zero m a = 0
number (suc n) m a = number n m a * 256 + byte_at m (a + n)

-- memory with the low n bytes of v from a, most significant first
abbrev pub stored : ℕ → Memory → ℕ → ℕ → Memory
stored zero m a v = m
stored (suc n) m a v = set (stored n m a (v / 256)) (a + n) (v % 256)

abbrev pub holds : Memory → ℕ → ℕ → Bool
holds m a n = leb (a + n) (length m)

-- a load and a store of n bytes at a physical address: past the end of memory nothing is read or written
unfoldable pub load : ℕ → Memory → ℕ → Answer
load n m a = cond (holds m a n) (good (number n m a)) (raised bus_fault)

unfoldable pub store_answer : ℕ → Memory → ℕ → Answer
store_answer n m a = cond (holds m a n) (good 0) (raised bus_fault)

unfoldable pub store_memory : ℕ → Memory → ℕ → ℕ → Memory
store_memory n m a v = cond (holds m a n) (stored n m a v) m

-- a store's answer and the memory after it, together
pub record Effect : Type 0 where
  pub answer : Answer
  pub memory : Memory

abbrev pub effect : Answer → Memory → Effect
effect a m = record { answer = a; memory = m }

unfoldable pub store_of : ℕ → Memory → ℕ → ℕ → Effect
store_of n m a v = effect (store_answer n m a) (store_memory n m a v)

-- HOUSE: "Little-endian only renumbers: byte address a is at a with both low bits complemented, a half-word with bit 1
-- complemented"
abbrev pub flipped : Width → ℕ → ℕ
flipped Byte a = bit_xor a 3
flipped Half a = bit_xor a 2
flipped Word a = a

abbrev pub place_of : Bool → Width → ℕ → ℕ
place_of little w a = cond little (flipped w a) a

-- refusal 1, "odd board": memory not 1 to 4,096 whole pages of 4,096 bytes
abbrev pub memory_size : ℕ
memory_size = 1

abbrev pub whole_pages : ℕ → Bool
whole_pages n = eqb (n % 4096) 0 && leb 4096 n && leb n (4096 * 4096)
