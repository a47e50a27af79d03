-- Each premise of isolation is needed: what is claimed of two machines that meet the other three.
-- Assumes nothing.
use Rattle.std.specs.Prelude.{ℕ, ◌^◌, ◌<◌, ◌≡◌, ◌↔◌, true, List}
use Rattle.memory.specs.Bytes.{Memory}
use Rattle.mmu.specs.declared.AccessKind.{AccessKind}
use Rattle.mmu.specs.declared.AccessKind.TheVariants.{Write}
use Rattle.mmu.specs.declared.Walk.TheVariants.{Paged}
use Rattle.mmu.specs.Walk.{walk}
use Rattle.machine.specs.Registers.{stb}
use Rattle.machine.specs.Status.{reg}
use Rattle.run_spec.specs.Run.{Board}
use Rattle.isolation.specs.Sealed.{page, Leads, Reaches, SegmentWord, PageWord, TableWord, Sealed, Agree}
use Rattle.isolation.specs.Execution.{RunRequest, confined, report}
use Rattle.isolation.specs.Isolation.{SameRuns}

pub data Premise : Type 0 where
  unreached : Premise
  unhidden : Premise
  unwritten : Premise
  apart : Premise

-- a premise on a memory, by hidden pages and STB: the fields of `Sealed`
abbrev pub Assumption : Type 1
Assumption = (ℕ → Type 0) → ℕ → Memory → Type 0

abbrev pub Meets : Premise → Assumption
Meets unreached H s m = (k : AccessKind) (pa : ℕ) → Leads s m k pa → H (page pa) → ⊥
Meets unhidden H s m = (w : ℕ) → TableWord s m w → H (page w) → ⊥
Meets unwritten H s m = (w : ℕ) → TableWord s m w → Reaches s m w → ⊥
Meets apart H s m = (w : ℕ) → SegmentWord s m w → PageWord s m w → ⊥

-- the four are what isolation assumes
abbrev pub AllFour : Type 1
AllFour = (H : ℕ → Type 0) (s : ℕ) (m : Memory) → ((p : Premise) → Meets p H s m) ↔ Sealed H s m

-- the other three
abbrev pub Without : Premise → Assumption
Without unreached H s m = Meets unhidden H s m × Meets unwritten H s m × Meets apart H s m
Without unhidden H s m = Meets unreached H s m × Meets unwritten H s m × Meets apart H s m
Without unwritten H s m = Meets unreached H s m × Meets unhidden H s m × Meets apart H s m
Without apart H s m = Meets unreached H s m × Meets unhidden H s m × Meets unwritten H s m

-- a premise of which only a part is left
pub data Part : Type 0 where
  writes_unreached : Part
  paged_unreached : Part
  segments_unhidden : Part
  pages_unhidden : Part
  segments_unwritten : Part
  pages_unwritten : Part

-- the other three and that part: "unreached" of writes alone, and through page entries alone; "unhidden" and "unwritten" of
-- one kind of entry alone
abbrev pub Partly : Part → Assumption
Partly writes_unreached H s m = Without unreached H s m × ((pa : ℕ) → Leads s m Write pa → H (page pa) → ⊥)
Partly paged_unreached H s m =
    Without unreached H s m × ((k : AccessKind) (va e pa : ℕ) → va < 2 ^ 32 → walk true s k va m ≡ Paged e pa → H (page pa) → ⊥)
Partly segments_unhidden H s m = Without unhidden H s m × ((w : ℕ) → SegmentWord s m w → H (page w) → ⊥)
Partly pages_unhidden H s m = Without unhidden H s m × ((w : ℕ) → PageWord s m w → H (page w) → ⊥)
Partly segments_unwritten H s m = Without unwritten H s m × ((w : ℕ) → SegmentWord s m w → Reaches s m w → ⊥)
Partly pages_unwritten H s m = Without unwritten H s m × ((w : ℕ) → PageWord s m w → Reaches s m w → ⊥)

-- all four, judged from another table than the one at STB
abbrev pub Elsewhere : Assumption
Elsewhere H s m = (t : ℕ) × (t ≡ s → ⊥) × Sealed H t m

-- two machines that are equal but for hidden pages, of which the first meets an assumption, and that answer one confined
-- run otherwise
pub record Distinguished (Premises : Assumption) : Type 1 where
  pub Hidden : ℕ → Type 0
  pub a : Board
  pub b : Board
  pub registers : a.cpu ≡ b.cpu
  pub others : Agree Hidden a.memory b.memory
  pub assumed : Premises Hidden (reg a.cpu stb) a.memory
  pub request : RunRequest
  pub distinguished : report (confined request a) ≡ report (confined request b) → ⊥

abbrev pub EachNeeded : Type 1
EachNeeded = (p : Premise) → Distinguished (Without p)

abbrev pub EachPartNeeded : Type 1
EachPartNeeded = (p : Part) → Distinguished (Partly p)

abbrev pub OtherTable : Type 1
OtherTable = Distinguished Elsewhere

-- so isolation with the other three alone is false
abbrev pub IsolationUnder : Assumption → Type 1
IsolationUnder Premises =
    (Hidden : ℕ → Type 0) (a b : Board) → a.cpu ≡ b.cpu → Agree Hidden a.memory b.memory
    → Premises Hidden (reg a.cpu stb) a.memory → (os : List RunRequest) → SameRuns Hidden a b os a b

abbrev pub FalseWithout : Type 1
FalseWithout = (p : Premise) → IsolationUnder (Without p) → ⊥
