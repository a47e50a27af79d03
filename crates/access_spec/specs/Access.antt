-- One access to memory: alignment, translation, recording, and the touch itself, in this order.
-- Assumes nothing.
use Rattle.std.specs.Prelude.{ℕ, ◌*◌, ◌/◌, ◌%◌, ◌^◌, Bool, cond, eqb}
use Rattle.word.specs.declared.Width.{Width}
use Rattle.word.specs.Widths.{bytes_of}
use Rattle.memory.specs.Answers.{Answer, good, raised}
use Rattle.memory.specs.Bytes.{Memory, load, store_answer, store_memory}
use Rattle.mmu.specs.declared.AccessKind.{AccessKind}
use Rattle.mmu.specs.declared.AccessKind.TheVariants.{Fetch, Read, Write}
use Rattle.mmu.specs.declared.Walk.{Walk}
use Rattle.mmu.specs.declared.Walk.TheVariants.{Fault, Direct, Paged}
use Rattle.mmu.specs.declared.Regime.{Regime}
use Rattle.mmu.specs.Walk.{fault_of, route, recorded}
use Rattle.memory.specs.Exceptions.{alignment_fault}

-- what a program may ask for, each in its regime: a parcel of text, a number of a width, a store of one, and whether
-- stores at an address are valid (the checks of ENTER, CATCH and CRET)
pub data Access : Type 0 where
  fetch : Regime → ℕ → Access
  read : Regime → Width → ℕ → Access
  write : Regime → Width → ℕ → ℕ → Access
  probe : Regime → ℕ → Access

abbrev pub regime_of : Access → Regime
regime_of (fetch r a) = r
regime_of (read r w a) = r
regime_of (write r w a v) = r
regime_of (probe r a) = r

abbrev pub access_kind_of : Access → AccessKind
access_kind_of (fetch r a) = Fetch
access_kind_of (read r w a) = Read
access_kind_of (write r w a v) = Write
access_kind_of (probe r a) = Write

-- an address is a word; of a text address "the least significant bit is ignored" (1.3.3)
abbrev pub address_of : Access → ℕ
address_of (fetch r a) = a % 2 ^ 32 / 2 * 2
address_of (read r w a) = a % 2 ^ 32
address_of (write r w a v) = a % 2 ^ 32
address_of (probe r a) = a % 2 ^ 32

-- 1.3.3: "All operand addresses should be naturally aligned for the operand type"
abbrev pub alignment : Access → ℕ
alignment (fetch r a) = 2
alignment (read r w a) = bytes_of w
alignment (write r w a v) = bytes_of w
alignment (probe r a) = 1

abbrev pub aligned : Access → Bool
aligned q = eqb (address_of q % alignment q) 0

-- an answer, and the world after it
pub record Response (W A : Type 0) : Type 0 where
  pub out : A
  pub world : W

abbrev pub response : {W A : Type 0} → A → W → Response W A
response a w = record { out = a; world = w }

-- the touch at a physical address
unfoldable pub touch : Access → ℕ → Memory → Response Memory Answer
touch (fetch r a) pa m = response (load 2 m pa) m
touch (read r w a) pa m = response (load (bytes_of w) m pa) m
touch (write r w a v) pa m = response (store_answer (bytes_of w) m pa) (store_memory (bytes_of w) m pa v)
touch (probe r a) pa m = response (good 0) m

-- what a walk leaves in the tables: a probe only looks
abbrev pub noted : Access → ℕ → Memory → Memory
noted (fetch r a) p m = recorded Fetch p m
noted (read r w a) p m = recorded Read p m
noted (write r w a v) p m = recorded Write p m
noted (probe r a) p m = m

-- a store that would not be valid is a read fault to the instructions that check (ENTER, CATCH)
abbrev pub fault_as : Access → ℕ → ℕ
fault_as (fetch r a) c = c
fault_as (read r w a) c = c
fault_as (write r w a v) c = c
fault_as (probe r a) c = cond (eqb c (fault_of Write)) (fault_of Read) c

unfoldable pub follow : Access → Memory → Walk → Response Memory Answer
follow q m (Fault c) = response (raised (fault_as q c)) m
follow q m (Direct pa) = touch q pa m
follow q m (Paged p pa) = touch q pa (noted q p m)

unfoldable pub access : Access → Memory → Response Memory Answer
access q m =
    cond (aligned q) (follow q m (route (regime_of q) (access_kind_of q) (address_of q) m)) (response (raised alignment_fault) m)
