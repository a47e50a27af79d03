-- What a walk has read where it ends at a page entry.
-- Assumes nothing.
use mathlib.Core.Path.{◌≡◌, refl}
use mathlib.Core.Bool.{Bool, true, false, cond, ◌&&◌}
use Prim.Native.Nat.{ℕ, ◌+◌, ◌*◌, ◌/◌, ◌%◌}
use native.Mathlib.Omega.{arith}
use lib.Dec.{leb}
use Rattle.memory.specs.Bytes.{Memory, number, holds}
use Rattle.mmu.specs.declared.AccessKind.{AccessKind}
use Rattle.mmu.specs.declared.Segment.{Segment}
use Rattle.mmu.specs.declared.Segment.TheVariants.{Outside, Invalid, Nonpaged, Table}
use Rattle.mmu.specs.declared.Walk.TheVariants.{Fault, Direct, Paged}
use Rattle.mmu.specs.Walk.{fault_of, segment_place, page_place, valid, nonpaged, permits, segment_of, segment, nonpaged_of, page_of, walk_from, walk}

-- a page entry that the first stage gives is a whole word of memory
pub record InMemory (m : Memory) (p : ℕ) : Type 0 where
  pub held : holds m p 4 ≡ true
  pub aligned : p % 4 ≡ 0

segment_of_table : (m : Memory) (va e p : ℕ) → segment_of m va e ≡ Table p → InMemory m p
unfolding segment_of
segment_of_table m va e p h = go (valid e) (nonpaged e) (holds m (page_place e va) 4) refl h
  where
    go : (v n t : Bool) → holds m (page_place e va) 4 ≡ t
        → cond v (cond n (Nonpaged e) (cond t (Table (page_place e va)) Outside)) Invalid ≡ Table p → InMemory m p
    go true false true f q =
        let i : page_place e va ≡ p = cc in
        record { held = rw (← i) f; aligned = omega arith }
    go true false false f q = let z : ◌≡◌ {A = ℕ} 0 1 = cc in absurd (omega arith)
    go true true t f q = let z : ◌≡◌ {A = ℕ} 0 1 = cc in absurd (omega arith)
    go false n t f q = let z : ◌≡◌ {A = ℕ} 0 1 = cc in absurd (omega arith)

pub segment_table : (stb va : ℕ) (m : Memory) (p : ℕ) → segment stb va m ≡ Table p → InMemory m p
unfolding segment
segment_table stb va m p h = go (holds m (segment_place stb va) 4) h
  where
    go : (t : Bool) → cond t (segment_of m va (number 4 m (segment_place stb va))) Outside ≡ Table p → InMemory m p
    go true q = segment_of_table m va (number 4 m (segment_place stb va)) p q
    go false q = let z : ◌≡◌ {A = ℕ} 0 1 = cc in absurd (omega arith)

-- a walk that ends in a page has read that page's entry, which lies in memory
pub record PageEntry (stb va : ℕ) (m : Memory) (p : ℕ) : Type 0 where
  pub found : segment stb va m ≡ Table p
  pub inside : InMemory m p

walk_table : (user : Bool) (stb : ℕ) (k : AccessKind) (va : ℕ) (m : Memory) (p pa : ℕ) → walk user stb k va m ≡ Paged p pa
    → segment stb va m ≡ Table p
unfolding walk walk_from page_of nonpaged_of
walk_table user stb k va m p pa h = go (segment stb va m) h
  where
    on_page : (f x : ℕ) (t : Bool) → cond t (Paged f x) (Fault (fault_of k)) ≡ Paged p pa → Table f ≡ Table p
    on_page f x true q = cc
    on_page f x false q = cc

    on_segment : (s : Segment) (x : ℕ) (t : Bool) → cond t (Direct x) (Fault (fault_of k)) ≡ Paged p pa → s ≡ Table p
    on_segment s x true q = cc
    on_segment s x false q = cc

    go : (s : Segment) → walk_from user k va m s ≡ Paged p pa → s ≡ Table p
    go Outside q = cc
    go Invalid q = cc
    go (Nonpaged e) q =
        on_segment (Nonpaged e) (e / 0x40_0000 * 0x40_0000 + va % 0x40_0000)
        (leb (va / 0x1000 % 0x400) (e / 0x1000 % 0x400) && permits user k e) q
    go (Table f) q =
        on_page f (number 4 m f / 0x1000 * 0x1000 + va % 0x1000) (valid (number 4 m f) && permits user k (number 4 m f)) q

pub walk_paged : (user : Bool) (stb : ℕ) (k : AccessKind) (va : ℕ) (m : Memory) (p pa : ℕ) → walk user stb k va m ≡ Paged p pa
    → PageEntry stb va m p
walk_paged user stb k va m p pa h =
    let t = walk_table user stb k va m p pa h in
    record { found = t; inside = segment_table stb va m p t }
