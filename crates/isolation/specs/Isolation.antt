-- Demand 3 as a statement: two boards that are equal but for hidden pages, through every list of confined runs.
-- Assumes nothing.
use Rattle.std.specs.Prelude.{ℕ, ◌≡◌, List, [], ◌∷◌}
use Rattle.machine.specs.Registers.{stb}
use Rattle.machine.specs.Status.{reg}
use Rattle.run_spec.specs.Run.{Board}
use Rattle.isolation.specs.Sealed.{Sealed, Agree, HiddenKept}
use Rattle.isolation.specs.Execution.{RunRequest, confined, report, execution}

-- "registers, stack cache, answers and all other pages are equal .. and the hidden pages hold their first bytes", those of
-- a₀ and b₀. A Cpu is the thirteen registers, "the trace and timer overflows still due, whether input 0 was taken and no
-- look has found another level since", and "all sixteen quad-words of its cache".
pub record Same (Hidden : ℕ → Type 0) (a₀ b₀ a b : Board) : Type 0 where
  pub registers : a.cpu ≡ b.cpu
  pub others : Agree Hidden a.memory b.memory
  pub first_a : HiddenKept Hidden a₀.memory a.memory
  pub first_b : HiddenKept Hidden b₀.memory b.memory

-- two lists of boards, equally long, place by place
pub data Along (R : Board → Board → Type 0) : List Board → List Board → Type 0 where
  none : Along R [] []
  both : {a b : Board} {xs ys : List Board} → R a b → Along R xs ys → Along R (a ∷ xs) (b ∷ ys)

-- "after each run, after every equal number of its steps, and after a faulting attempt that ends it"; "the event is the
-- same with the same PC and PSW"
pub record SameRun (Hidden : ℕ → Type 0) (a₀ b₀ : Board) (o : RunRequest) (a b : Board) : Type 0 where
  pub answer : report (confined o a) ≡ report (confined o b)
  pub steps : Along (Same Hidden a₀ b₀) (execution o a) (execution o b)
  pub left : Same Hidden a₀ b₀ (confined o a).left (confined o b).left

-- "The first run begins with the two machines; each later one gets the machine that the last one left, after an event or
-- a refusal too."
abbrev pub SameRuns : (ℕ → Type 0) → Board → Board → List RunRequest → Board → Board → Type 0
SameRuns Hidden a₀ b₀ [] a b = Unit {0}
SameRuns Hidden a₀ b₀ (o ∷ os) a b =
    SameRun Hidden a₀ b₀ o a b × SameRuns Hidden a₀ b₀ os (confined o a).left (confined o b).left

-- the premises: "two machines .. are equal but for some hidden physical pages", sealed at the start, on one memory
pub record Apart (Hidden : ℕ → Type 0) (a b : Board) : Type 0 where
  pub registers : a.cpu ≡ b.cpu
  pub others : Agree Hidden a.memory b.memory
  pub sealed : Sealed Hidden (reg a.cpu stb) a.memory

-- "Demand 3 is one claim about the whole list of runs." It holds without "at user level with virtual addressing on": there
-- every run is refused.
abbrev pub Isolation : Type 1
Isolation = (Hidden : ℕ → Type 0) (a b : Board) → Apart Hidden a b → (os : List RunRequest) → SameRuns Hidden a b os a b
