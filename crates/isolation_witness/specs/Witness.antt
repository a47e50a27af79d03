-- Machines that meet all premises of isolation, with any word h in the hidden page 3, and what confined runs do on them.
-- Assumes nothing.
use Rattle.std.specs.Prelude.{ℕ, ◌+◌, Bool, true, false, ◌&&◌, List, [], ◌∷◌, map, length, get_or, replicate, T, eqb}
use Rattle.memory.specs.Bytes.{number}
use Rattle.machine.specs.Registers.{Bank, fault, msp, sp}
use Rattle.machine.specs.Cache.{Cache}
use Rattle.machine.specs.Status.{Cpu, cpu, reg}
use Rattle.run_spec.specs.Run.{Board, board, RunResult, budget_spent, event_due}
use Rattle.isolation.specs.Execution.{RunRequest, confined, report, execution}
use Rattle.isolation.specs.Isolation.{Apart, SameRuns}
use Rattle.isolation_witness.specs.Memories.{Words, memory_of, only, user_board, stepping}

-- what an 83 line carries: steps, stop, code, PC, PSW
abbrev pub reports : RunResult → ℕ → ℕ → ℕ → ℕ → ℕ → Bool
reports e n s c p w =
    eqb (report e).steps n
    && eqb (report e).stop s
    && eqb (report e).code c
    && eqb (report e).counter p
    && eqb (report e).status w

abbrev pub holds_word : RunResult → ℕ → ℕ → Bool
holds_word e a v = eqb (number 4 e.left.memory a) v

abbrev pub holds_words : RunResult → ℕ → List ℕ → Bool
holds_words e a [] = true
holds_words e a (v ∷ vs) = holds_word e a v && holds_words e (a + 4) vs

abbrev pub holds_register : RunResult → ℕ → ℕ → Bool
holds_register e k v = eqb (reg e.left.cpu k) v

-- the hidden word
abbrev pub hiding : ℕ → Words → Words
hiding h ws = (0x3000, h) ∷ ws

-- ---- "MOV 5, 16(CSP)" in page 0, and "MOV *0(CSP), 16(CSP)", which reads where nothing is mapped

-- a nonpaged segment at 0 of one page: valid, writable, user
abbrev pub nonpaged_words : Words
nonpaged_words = (0, 0x70A4_6404) ∷ (0x1000, 0x0F) ∷ []

abbrev pub nonpaged_board : ℕ → Board
nonpaged_board h = user_board (hiding h nonpaged_words)

-- a segment with its page table at 0x2000: valid; in it one page at 0: valid, writable, user
abbrev pub paged_words : Words
paged_words = (0, 0x70A4_6404) ∷ (0x1000, 0x2001) ∷ (0x2000, 0x07) ∷ []

abbrev pub paged_board : ℕ → Board
paged_board h = user_board (hiding h paged_words)

-- after one step 5 is in the word at 16, the hidden word is as it was; with paged entries Referenced and Modified are set
abbrev pub stored_five : ℕ → RunResult → Bool
stored_five h e = reports e 1 budget_spent 0 2 0x1_0400 && holds_word e 16 5 && holds_word e 0x3000 h

abbrev pub stored_paged : ℕ → RunResult → Bool
stored_paged h e = stored_five h e && holds_word e 0x2000 0x1F

-- the FAULT of each board of an execution of two steps: after the step, and after the attempt
abbrev pub faults_along : List ℕ → Bool
faults_along l = eqb (length l) 2 && eqb (get_or l 0 1) 0 && eqb (get_or l 1 0) 0x70A4_6404

unfoldable pub trials : ℕ → Bool
trials h =
    stored_five h (confined (stepping 1) (nonpaged_board h))
    && stored_paged h (confined (stepping 1) (paged_board h))
    && faults_along (map (λ s. reg s.cpu fault) (execution (stepping 2) (nonpaged_board h)))

-- ---- two runs with the stack cache on and SP current: ENTER flushes two quad-words, then a read is not mapped

-- CONFIG bit 18, PSW bit 9, SP 0x1620, MSP 0x1720: the cache is full
abbrev pub stack_bank : Bank
stack_bank = 0x4_0000 ∷ 0 ∷ 0x3B ∷ 0 ∷ 0x1720 ∷ 0 ∷ 0x1_0600 ∷ 0 ∷ 0x1620 ∷ 0x1000 ∷ 0 ∷ 0 ∷ 0 ∷ 0 ∷ 0 ∷ 0 ∷ 0 ∷ []

abbrev pub stack_cache : Cache
stack_cache = (11 ∷ 12 ∷ 13 ∷ 14 ∷ []) ∷ (15 ∷ 16 ∷ 17 ∷ 18 ∷ []) ∷ (0x5000 ∷ 0 ∷ 0 ∷ 0 ∷ []) ∷ replicate 13 (replicate 4 0)

abbrev pub stack_cpu : Cpu
stack_cpu = cpu stack_bank stack_cache

-- "ENTER -32(SP)", "MOV *32(CSP), 4(CSP)"; page 0 is at 0 for the text and at 0x1000 for the stack, where it is writable
abbrev pub stack_words : Words
stack_words = (0, 0x08FE_6501) ∷ (0x1000, 0x2001) ∷ (0x2000, 0x0D) ∷ (0x2004, 0x07) ∷ []

abbrev pub stack_board : ℕ → Board
stack_board h = board stack_cpu (memory_of (hiding h stack_words))

abbrev pub two_runs : List RunRequest
two_runs = stepping 1 ∷ stepping 5 ∷ []

-- the flushed words
abbrev pub flushed : RunResult → Bool
flushed e = holds_words e 0x700 (11 ∷ 12 ∷ 13 ∷ 14 ∷ 15 ∷ 16 ∷ 17 ∷ 18 ∷ [])

-- after the first run: the entry of the stack has its bits, and the hidden word is as it was
abbrev pub entered : ℕ → RunResult → Bool
entered h e =
    reports e 1 budget_spent 0 2 0x1_0E00
    && holds_register e sp 0x1600
    && holds_register e msp 0x1700
    && flushed e
    && holds_word e 0x2004 0x1F
    && holds_word e 0x3000 h

-- after the second: a read fault
abbrev pub faulted_read : ℕ → RunResult → Bool
faulted_read h e = reports e 0 event_due 0x8 2 0x1_0E00 && holds_register e fault 0x5000 && flushed e && holds_word e 0x3000 h

-- a test for each run of a list, on what it ended with
abbrev pub testing : (RunResult → Bool) → (Board → Bool) → RunResult → Bool
testing t next e = t e && next e.left

abbrev pub tests : List (RunResult → Bool) → List RunRequest → Board → Bool
tests (t ∷ ts) (o ∷ os) s = testing t (λ u. tests ts os u) (confined o s)
tests [] os s = true
tests (t ∷ ts) [] s = false

unfoldable pub flushes : ℕ → Bool
flushes h = tests (entered h ∷ faulted_read h ∷ []) two_runs (stack_board h)

-- ---- the statements

abbrev pub PremisesMet : Type 0
PremisesMet =
    (h i : ℕ)
    → Apart (only 3) (nonpaged_board h) (nonpaged_board i)
    × Apart (only 3) (paged_board h) (paged_board i)
    × Apart (only 3) (stack_board h) (stack_board i)

abbrev pub Trials : Type 0
Trials = T (trials 1)

-- the same on two machines that differ in the hidden word
abbrev pub Flushes : Type 0
Flushes = T (flushes 1 && flushes 2)

abbrev pub SameFlushes : Type 0
SameFlushes = (h i : ℕ) → SameRuns (only 3) (stack_board h) (stack_board i) two_runs (stack_board h) (stack_board i)
