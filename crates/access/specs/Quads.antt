-- A quad-word of memory whose four accesses share one walk, and where it lies.
-- Assumes nothing.
use Rattle.std.specs.Prelude.{◌≡◌, Bool, false, cond, not, ◌&&◌, ℕ, ◌+◌, ◌/◌, ◌%◌, ◌≤◌, eqb, leb, length}
use Rattle.memory.specs.Bytes.{Memory}
use Rattle.mmu.specs.declared.AccessKind.{AccessKind}
use Rattle.mmu.specs.declared.Walk.{Walk}
use Rattle.mmu.specs.declared.Walk.TheVariants.{Fault, Direct, Paged}
use Rattle.mmu.specs.Walk.{segment_place, fresh, walk}
use Rattle.access.specs.EffectFree.{nowhere}

-- the quad-word at a, found at pa by the page entry at p: the entry's bits are set, both are whole quad-words of memory, and
-- neither entry of the walk lies in it
abbrev pub shares_walk : ℕ → AccessKind → ℕ → Memory → ℕ → ℕ → Bool
shares_walk stb k a m p pa =
    not (fresh k p m) && eqb (a % 16) 0 && eqb (pa % 16) 0 && leb (pa + 16) (length m) && not (eqb (p / 16) (pa / 16))
    && not (eqb (segment_place stb a / 16) (pa / 16))

-- by the walk of its address: a nonpaged segment goes word by word
abbrev pub shared_of : ℕ → AccessKind → ℕ → Memory → Walk → ℕ
shared_of stb k a m (Fault c) = nowhere
shared_of stb k a m (Direct pa) = nowhere
shared_of stb k a m (Paged p pa) = cond (shares_walk stb k a m p pa) pa nowhere

-- where the quad-word at a lies, if one walk does for its four accesses of kind k
unfoldable pub quad_place : Bool → ℕ → AccessKind → ℕ → Memory → ℕ
quad_place user stb k a m = shared_of stb k a m (walk user stb k a m)

-- the quad-word at a lies at pa: what callers know of its place (`quad_place_law`)
pub record Quad (user : Bool) (stb : ℕ) (k : AccessKind) (a : ℕ) (m : Memory) (pa : ℕ) : Type 0 where
  pub entry : ℕ
  pub found : walk user stb k a m ≡ Paged entry pa
  pub old : fresh k entry m ≡ false
  pub start : a % 16 ≡ 0
  pub place : pa % 16 ≡ 0
  pub inside : pa + 16 ≤ length m
  pub apart : entry / 16 ≡ pa / 16 → ⊥
  pub clear : segment_place stb a / 16 ≡ pa / 16 → ⊥
