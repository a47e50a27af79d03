-- Memories of four pages by their words that are not 0, and a machine at user level to run on them.
-- Assumes nothing.
use Rattle.std.specs.Prelude.{ℕ, zero, suc, ◌*◌, ◌/◌, ◌%◌, ◌≡◌, cond, List, [], ◌∷◌, get_or, replicate, eqb}
use Rattle.memory.specs.Bytes.{Memory}
use Rattle.machine.specs.Registers.{Bank}
use Rattle.machine.specs.Status.{Cpu, cpu}
use Rattle.run_spec.specs.Run.{Board, board}
use Rattle.isolation.specs.Execution.{RunRequest}

-- places, and what stands there; the first that names a place counts
abbrev pub Words : Type 0
Words = List (ℕ × ℕ)

unfoldable pub word_at : Words → ℕ → ℕ
word_at [] a = 0
word_at (w ∷ ws) a = cond (eqb w.0 a) w.1 (word_at ws a)

-- byte i of a word, most significant first
unfoldable pub byte_of : ℕ → ℕ → ℕ
byte_of v i = get_or (v / 0x100_0000 ∷ v / 0x1_0000 % 0x100 ∷ v / 0x100 % 0x100 ∷ v % 0x100 ∷ []) i 0

-- n bytes from the place a on
unfoldable pub bytes_from : Words → ℕ → ℕ → List ℕ
bytes_from ws a zero = []
bytes_from ws a (suc n) = let t = bytes_from ws (suc a) n in byte_of (word_at ws (a / 4 * 4)) (a % 4) ∷ t

abbrev pub memory_of : Words → Memory
memory_of ws = bytes_from ws 0 0x4000

-- one page is hidden
abbrev pub only : ℕ → ℕ → Type 0
only q p = p ≡ q

-- user level with virtual addressing, STB 0x1000, every other register 0
abbrev pub user_bank : Bank
user_bank = 0 ∷ 0 ∷ 0x3B ∷ 0 ∷ 0 ∷ 0 ∷ 0x1_0400 ∷ 0 ∷ 0 ∷ 0x1000 ∷ 0 ∷ 0 ∷ 0 ∷ 0 ∷ 0 ∷ 0 ∷ 0 ∷ []

abbrev pub user_cpu : Cpu
user_cpu = cpu user_bank (replicate 16 (replicate 4 0))

abbrev pub user_board : Words → Board
user_board ws = board user_cpu (memory_of ws)

-- a run of so many steps, no interrupt
abbrev pub stepping : ℕ → RunRequest
stepping n = record { budget = n; level = 7 }
