-- Demand 3 as a statement about the code: what `run::running::run_lent`, which is frame 04, answers to every list of
-- confined runs, by the contract that it exports.
-- Assumes nothing.
use Rattle.std.specs.Prelude.{ℕ, ◌≡◌, true, List, [], ◌∷◌}
use Rattle.memory.specs.Bytes.{Memory}
use Rattle.machine.specs.Status.{Cpu}
use Rattle.run_spec.specs.Run.{board}
use Rattle.run_spec.specs.declared.Stopped.{Stopped}
use Rattle.isolation.specs.Sealed.{Agree, HiddenKept}
use Rattle.isolation.specs.Execution.{RunRequest}
use Rattle.isolation.specs.Isolation.{Apart}
use Rattle.isolation_board.specs.Calls.{RunPlaces, RunLent}

-- a call of the code and what it left: its answer, the lent bank and cache, the lent memory
pub record Outcome : Type 0 where
  pub places : RunPlaces
  pub answer : Stopped
  pub machine : Cpu
  pub memory : Memory

-- the call was a confined run of a machine on the memory m
abbrev pub ConfinedCall : Cpu → Memory → RunRequest → Outcome → Type 0
ConfinedCall c m o x = RunLent x.places c m true o.budget o.level x.answer x.machine x.memory

-- the outcomes of a list of runs: each later one gets the machine and the memory that the last one left
abbrev pub ConfinedCalls : Cpu → Memory → List RunRequest → List Outcome → Type 0
ConfinedCalls c m [] [] = Unit {0}
ConfinedCalls c m [] (x ∷ xs) = ⊥
ConfinedCalls c m (o ∷ os) [] = ⊥
ConfinedCalls c m (o ∷ os) (x ∷ xs) = ConfinedCall c m o x × ConfinedCalls x.machine x.memory os xs

-- two outcomes tell nothing of the hidden pages, and each side's hidden pages hold the bytes of m and of n
pub record SameOutcome (Hidden : ℕ → Type 0) (m n : Memory) (x y : Outcome) : Type 0 where
  pub steps : x.answer.steps ≡ y.answer.steps
  pub stop : x.answer.stop ≡ y.answer.stop
  pub code : x.answer.code ≡ y.answer.code
  pub registers : x.machine ≡ y.machine
  pub others : Agree Hidden x.memory y.memory
  pub first_a : HiddenKept Hidden m x.memory
  pub first_b : HiddenKept Hidden n y.memory

abbrev pub SameOutcomes : (ℕ → Type 0) → Memory → Memory → List Outcome → List Outcome → Type 0
SameOutcomes Hidden m n [] [] = Unit {0}
SameOutcomes Hidden m n [] (y ∷ ys) = ⊥
SameOutcomes Hidden m n (x ∷ xs) [] = ⊥
SameOutcomes Hidden m n (x ∷ xs) (y ∷ ys) = SameOutcome Hidden m n x y × SameOutcomes Hidden m n xs ys

-- for every two machines and memories that are equal but for hidden pages, and every list of confined runs
abbrev pub Confinement : Type 1
Confinement =
    (Hidden : ℕ → Type 0) (a b : Cpu) (m n : Memory) → Apart Hidden (board a m) (board b n)
    → (os : List RunRequest) (xs ys : List Outcome) → ConfinedCalls a m os xs → ConfinedCalls b n os ys → SameOutcomes Hidden m n xs ys
