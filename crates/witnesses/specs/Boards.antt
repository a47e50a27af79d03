-- Small boards to play runs on by computation, and what is asked of them afterwards.
-- Assumes nothing.
use Rattle.std.specs.Prelude.{ℕ, suc, ◌/◌, ◌%◌, Bool, true, false, not, ◌&&◌, List, [], ◌∷◌, replicate, get_or, set, eqb}
use Rattle.memory.specs.Bytes.{Memory, number}
use Rattle.machine.specs.Registers.{Bank}
use Rattle.machine.specs.Status.{Cpu, cpu, reg}
use Rattle.machine.specs.Record.{zero_cache}
use Rattle.run_spec.specs.Run.{board, RunResult, run}

-- a number that the definition gives: this one, and not the wrong one
abbrev pub is : ℕ → ℕ → ℕ → Bool
is x right wrong = eqb x right && not (eqb x wrong)

abbrev pub all : List Bool → Bool
all [] = true
all (t ∷ ts) = t && all ts

-- ---- memory

abbrev pub page : Memory
page = replicate 4096 0

abbrev pub pages : Memory
pages = replicate 8192 0

-- memory with bytes from a on, with a word at a, and with the parcels of a text from a on
abbrev pub bytes : ℕ → List ℕ → Memory → Memory
bytes a [] m = m
bytes a (b ∷ bs) m = bytes (suc a) bs (set m a b)

abbrev pub word : ℕ → ℕ → Memory → Memory
word a v m = bytes a (v / 0x100_0000 ∷ v / 0x1_0000 % 256 ∷ v / 256 % 256 ∷ v % 256 ∷ []) m

abbrev pub text : ℕ → List ℕ → Memory → Memory
text a [] m = m
text a (p ∷ ps) m = text (suc (suc a)) ps (bytes a (p / 256 ∷ p % 256 ∷ []) m)

-- ---- registers

-- at kernel level without translation, the interrupt stack current: PC 0x100, ISP and SHAD 0x800, SP and MSP 0x600, VB 0x400
abbrev pub kernel_bank : Bank
kernel_bank = 0 ∷ 0 ∷ 0x3B ∷ 0x800 ∷ 0x600 ∷ 0x100 ∷ 0 ∷ 0x800 ∷ 0x600 ∷ 0 ∷ 0 ∷ 0 ∷ 0x400 ∷ 0 ∷ 0 ∷ 0 ∷ 0 ∷ []

abbrev pub kernel : Cpu
kernel = cpu kernel_bank zero_cache

-- at user level with translation from the table at 0, SP current
abbrev pub user_bank : Bank
user_bank = 0 ∷ 0 ∷ 0x3B ∷ 0x800 ∷ 0x600 ∷ 0x100 ∷ 0x1_0600 ∷ 0x600 ∷ 0x600 ∷ 0 ∷ 0 ∷ 0 ∷ 0x400 ∷ 0 ∷ 0 ∷ 0 ∷ 0 ∷ []

abbrev pub user : Cpu
user = cpu user_bank zero_cache

-- a nonpaged segment at 0 of one page: valid, writable, user
abbrev pub segmented : Memory → Memory
segmented m = word 0 0x0F m

-- ---- runs

-- a run of kind 03 without interrupts, and a confined one
abbrev pub runs : ℕ → Cpu → Memory → RunResult
runs budget c m = run false budget 7 (board c m)

abbrev pub confined : ℕ → Cpu → Memory → RunResult
confined budget c m = run true budget 7 (board c m)

abbrev pub register : RunResult → ℕ → ℕ
register e k = reg e.left.cpu k

abbrev pub memory_word : RunResult → ℕ → ℕ
memory_word e a = number 4 e.left.memory a

-- the word j of the quad-word i
abbrev pub cache_word : RunResult → ℕ → ℕ → ℕ
cache_word e i j = get_or (get_or e.left.cpu.cache i []) j 0
