-- What a route tells of its physical address and of its page entry.
-- Assumes nothing.
use Prim.Native.Nat.{ℕ, ◌+◌, ◌*◌, ◌/◌, ◌%◌}
use mathlib.Core.Path.{◌≡◌, refl}
use mathlib.Core.Bool.{Bool, true, false, cond, ◌&&◌}
use native.Mathlib.Omega.{arith}
use lib.Dec.{leb}
use Rattle.memory.specs.Bytes.{Memory, number, holds}
use Rattle.mmu.specs.declared.AccessKind.{AccessKind}
use Rattle.mmu.specs.declared.Segment.{Segment}
use Rattle.mmu.specs.declared.Segment.TheVariants.{Outside, Invalid, Nonpaged, Table}
use Rattle.mmu.specs.declared.Walk.{Walk}
use Rattle.mmu.specs.declared.Walk.TheVariants.{Fault, Direct, Paged}
use Rattle.mmu.specs.declared.Regime.{Regime}
use Rattle.mmu.proofs.ShapeLaws.{segment_table}
use Rattle.mmu.specs.Walk.{fault_of, valid, segment, permits, nonpaged_of, page_of, walk_from, walk, route}

-- a walk that ends at an address keeps its place in the word, and a page entry lies in memory
abbrev pub Ends : Memory → ℕ → Walk → Type 0
Ends m va (Fault c) = Unit {0}
Ends m va (Direct pa) = pa % 4 ≡ va % 4
Ends m va (Paged p pa) = (pa % 4 ≡ va % 4) × (holds m p 4 ≡ true)

abbrev TableHolds : Memory → Segment → Type 0
TableHolds m Outside = Unit {0}
TableHolds m Invalid = Unit {0}
TableHolds m (Nonpaged e) = Unit {0}
TableHolds m (Table p) = holds m p 4 ≡ true

segment_holds : (stb va : ℕ) (m : Memory) → TableHolds m (segment stb va m)
segment_holds stb va m = go (segment stb va m) refl
  where
    go : (s : Segment) → segment stb va m ≡ s → TableHolds m s
    go Outside e = tt
    go Invalid e = tt
    go (Nonpaged w) e = tt
    go (Table p) e = (segment_table stb va m p e).held

direct_ends : (m : Memory) (va pa c : ℕ) (b : Bool) → pa % 4 ≡ va % 4 → Ends m va (cond b (Direct pa) (Fault c))
direct_ends m va pa c true e = e
direct_ends m va pa c false e = tt

paged_ends : (m : Memory) (va p pa c : ℕ) (b : Bool) → pa % 4 ≡ va % 4 → holds m p 4 ≡ true → Ends m va (cond b (Paged p pa) (Fault c))
paged_ends m va p pa c true e h = (e, h)
paged_ends m va p pa c false e h = tt

from_ends : (user : Bool) (k : AccessKind) (va : ℕ) (m : Memory) (s : Segment) → TableHolds m s → Ends m va (walk_from user k va m s)
unfolding walk_from nonpaged_of page_of
from_ends user k va m Outside h = tt
from_ends user k va m Invalid h = tt
from_ends user k va m (Nonpaged e) h =
    direct_ends m va (e / 0x40_0000 * 0x40_0000 + va % 0x40_0000) (fault_of k) (leb (va / 0x1000 % 0x400) (e / 0x1000 % 0x400) && permits user k e) (omega arith)
from_ends user k va m (Table p) h =
    let e = number 4 m p in
    paged_ends m va p (e / 0x1000 * 0x1000 + va % 0x1000) (fault_of k) (valid e && permits user k e) (omega arith) h

pub route_ends : (r : Regime) (k : AccessKind) (va : ℕ) (m : Memory) → Ends m va (route r k va m)
unfolding route walk
route_ends r k va m = go r.translated
  where
    go : (b : Bool) → Ends m va (cond b (walk_from r.user k va m (segment r.stb va m)) (Direct va))
    go true = from_ends r.user k va m (segment r.stb va m) (segment_holds r.stb va m)
    go false = refl
