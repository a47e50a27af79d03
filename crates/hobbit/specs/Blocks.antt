-- The blocks that a caller of the C interface lends: seventeen words of registers and what is due, sixty-four of the cache.
-- Assumes nothing.
use Rattle.std.specs.Prelude.{ℕ, List, Result, Ok, Err}
use Rattle.refusals.specs.declared.Refusal.{Refusal}
use Rattle.refusals.specs.Numbers.{number_of}
use Rattle.machine.specs.Registers.{Bank}
use Rattle.machine.specs.Cache.{quads_of, flat_of}
use Rattle.machine.specs.Status.{cpu}
use Rattle.memory.specs.Bytes.{Memory}
use Rattle.access_spec.specs.Clauses.{Lent}
use Rattle.run_spec.specs.Run.{Board, board, RunResult}
use Rattle.run.specs.Code.{StepResult}
use Rattle.hobbit.specs.declared.HobbitAnswer.{HobbitAnswer}
use Rattle.hobbit.specs.declared.HobbitWord.{HobbitWord}

-- the number of this interface, HOBBIT_INTERFACE of the header
abbrev pub interface : ℕ
interface = 2

-- the board that two blocks and a memory hold
abbrev pub board_in : List ℕ → List ℕ → Memory → Board
board_in r c m = board (cpu r (quads_of c)) m

-- as they were lent
abbrev pub entry_board_in : Lent (List ℕ) → Lent (List ℕ) → Lent Memory → Board
entry_board_in r c m = board_in r.entry.now c.entry.now m.entry.now

-- the blocks that hold a board
pub record Blocks : Type 0 where
  pub registers : Bank
  pub cache : List ℕ
  pub memory : Memory

abbrev pub blocks : Bank → List ℕ → Memory → Blocks
blocks r c m = record { registers = r; cache = c; memory = m }

abbrev pub blocks_of : Board → Blocks
blocks_of s = blocks s.cpu.bank (flat_of s.cpu.cache) s.memory

-- the lent ones, as they are left
abbrev pub exit_blocks : Lent Bank → Lent (List ℕ) → Lent Memory → Blocks
exit_blocks r c m = blocks r.exit.now c.exit.now m.exit.now

-- a run's answer, with the blocks that it left
pub record RunAnswer : Type 0 where
  pub steps : ℕ
  pub stop : ℕ
  pub code : ℕ
  pub left : Blocks

abbrev pub run_answer : HobbitAnswer → Blocks → RunAnswer
run_answer x b = record { steps = x.steps; stop = x.stop; code = x.code; left = b }

abbrev pub run_answer_of : RunResult → RunAnswer
run_answer_of e = record { steps = e.steps; stop = e.stop; code = e.code; left = blocks_of e.left }

-- a step's: 0 or the refusal
pub record StepAnswer : Type 0 where
  pub refusal : ℕ
  pub left : Blocks

abbrev pub step_answer : ℕ → Blocks → StepAnswer
step_answer r b = record { refusal = r; left = b }

abbrev pub step_answer_of : StepResult → StepAnswer
step_answer_of a = step_answer a.refusal (blocks_of a.left)

-- a register read: 0 and its word, or the refusal and 0
abbrev pub word_of : Result ℕ Refusal → HobbitWord
word_of (Ok w) = record { refusal = 0; value = w }
word_of (Err r) = record { refusal = number_of r; value = 0 }
