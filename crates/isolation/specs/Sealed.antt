-- The premises of isolation, on one memory (document 01, "The words of demand 3"), and what it is for memories to agree.
-- Assumes nothing.
use Rattle.std.specs.Prelude.{ℕ, ◌+◌, ◌/◌, ◌^◌, ◌<◌, ◌≤◌, ◌≡◌, ◌⊎◌, true, length}
use Rattle.memory.specs.Bytes.{Memory, byte_at}
use Rattle.mmu.specs.declared.AccessKind.{AccessKind}
use Rattle.mmu.specs.declared.AccessKind.TheVariants.{Write}
use Rattle.mmu.specs.declared.Segment.TheVariants.{Table}
use Rattle.mmu.specs.declared.Walk.{Walk}
use Rattle.mmu.specs.declared.Walk.TheVariants.{Fault, Direct, Paged}
use Rattle.mmu.specs.Walk.{segment_place, segment, walk}

-- "pages of 4,096 bytes": the page of a physical address
abbrev pub page : ℕ → ℕ
page a = a / 4096

-- "An address leads an access to the physical address that its walk gives without a fault"
abbrev pub lands : Walk → ℕ → Type 0
lands (Fault c) pa = ⊥
lands (Direct p) pa = p ≡ pa
lands (Paged e p) pa = p ≡ pa

-- the walk is one at user level, from STB, of a virtual address below 2 ^ 32
pub record Leads (stb : ℕ) (m : Memory) (k : AccessKind) (pa : ℕ) : Type 0 where
  pub va : ℕ
  pub virtual : va < 2 ^ 32
  pub there : lands (walk true stb k va m) pa

-- "a user write reaches a word if some address leads it to one of its bytes"
pub record Reaches (stb : ℕ) (m : Memory) (w : ℕ) : Type 0 where
  pub pa : ℕ
  pub led : Leads stb m Write pa
  pub first : w ≤ pa
  pub last : pa < w + 4

-- "A table word is one that a walk from STB at user level reads, for any virtual address and a fetch, read or write, even
-- if the walk ends in a fault; it is a segment or a page entry by where in the walk it is read." What a walk reads goes
-- neither by the level nor by the access. The first word that it reads, if memory holds it:
pub record SegmentWord (stb : ℕ) (m : Memory) (w : ℕ) : Type 0 where
  pub va : ℕ
  pub virtual : va < 2 ^ 32
  pub here : segment_place stb va ≡ w
  pub inside : w + 4 ≤ length m

-- the second word that it reads; the first stage answers Table for a word in memory alone
pub record PageWord (stb : ℕ) (m : Memory) (w : ℕ) : Type 0 where
  pub va : ℕ
  pub virtual : va < 2 ^ 32
  pub here : segment stb va m ≡ Table w

abbrev pub TableWord : ℕ → Memory → ℕ → Type 0
TableWord stb m w = SegmentWord stb m w ⊎ PageWord stb m w

-- "Hidden pages are any chosen pages of the memory, from none to all": any predicate on page numbers. "All this is judged
-- by chapter 2 on the memory at the start."
pub record Sealed (Hidden : ℕ → Type 0) (stb : ℕ) (m : Memory) : Type 0 where
  -- "no virtual address leads a user fetch, read or write to a hidden page"
  pub unreached : (k : AccessKind) (pa : ℕ) → Leads stb m k pa → Hidden (page pa) → ⊥
  -- "no walk reads a table word in one"
  pub unhidden : (w : ℕ) → TableWord stb m w → Hidden (page w) → ⊥
  -- "no user write reaches a table word"
  pub unwritten : (w : ℕ) → TableWord stb m w → Reaches stb m w → ⊥
  -- "no word is both a segment and a page entry"
  pub apart : (w : ℕ) → SegmentWord stb m w → PageWord stb m w → ⊥

-- "equal but for some hidden physical pages": equally long, and each byte on another page is the same
pub record Agree (Hidden : ℕ → Type 0) (a b : Memory) : Type 0 where
  pub len : length a ≡ length b
  pub same : (x : ℕ) → (Hidden (page x) → ⊥) → byte_at a x ≡ byte_at b x

-- "the hidden pages hold their first bytes": those of the memory m₀
pub record HiddenKept (Hidden : ℕ → Type 0) (m₀ m : Memory) : Type 0 where
  pub len : length m ≡ length m₀
  pub same : (x : ℕ) → Hidden (page x) → byte_at m x ≡ byte_at m₀ x
