-- The walks of bytes of one page end one beside the other.
-- Assumes nothing.
use mathlib.Core.Path.{◌≡◌, refl, ap}
use mathlib.Core.Bool.{Bool, true, false, cond, ◌&&◌}
use Prim.Native.Nat.{ℕ, ◌+◌, ◌*◌, ◌/◌, ◌%◌, ◌<◌}
use native.Mathlib.Omega.{arith}
use lib.ListN.{length}
use lib.Dec.{leb}
use Rattle.memory.specs.Bytes.{Memory, number}
use Rattle.mmu.specs.declared.AccessKind.{AccessKind}
use Rattle.mmu.specs.declared.Segment.{Segment}
use Rattle.mmu.specs.declared.Segment.TheVariants.{Outside, Invalid, Nonpaged, Table}
use Rattle.mmu.specs.declared.Walk.TheVariants.{Fault, Direct, Paged}
use Rattle.mmu.specs.Walk.{fault_of, segment_place, page_place, valid, permits, segment_of, segment, nonpaged_of, page_of, walk_from, walk}
use Rattle.mmu.proofs.ShapeLaws.{walk_paged}

module _ (user : Bool) (stb : ℕ) (k : AccessKind) (va i : ℕ) (page : va % 0x1000 + i < 0x1000) where
  pub segment_place_beside : segment_place stb (va + i) ≡ segment_place stb va
  segment_place_beside = omega arith

  page_place_beside : (e : ℕ) → page_place e (va + i) ≡ page_place e va
  page_place_beside e = omega arith

  segment_beside : (m : Memory) → segment stb (va + i) m ≡ segment stb va m
  unfolding segment segment_of
  segment_beside m = rw (segment_place_beside, page_place_beside (number 4 m (segment_place stb va))) refl

  page_beside : (p e pa : ℕ) → page_of user k va p e ≡ Paged p pa → page_of user k (va + i) p e ≡ Paged p (pa + i)
  unfolding page_of
  page_beside p e pa h = go (valid e && permits user k e) h
    where
      go : (t : Bool) → cond t (Paged p (e / 0x1000 * 0x1000 + va % 0x1000)) (Fault (fault_of k)) ≡ Paged p pa
          → cond t (Paged p (e / 0x1000 * 0x1000 + (va + i) % 0x1000)) (Fault (fault_of k)) ≡ Paged p (pa + i)
      go true q =
          let f : e / 0x1000 * 0x1000 + va % 0x1000 ≡ pa = cc in
          ap (λ (x : ℕ). Paged p x) (omega arith)
      go false q = let z : ◌≡◌ {A = ℕ} 0 1 = cc in absurd (omega arith)

  pub walk_beside : (m : Memory) (p pa : ℕ) → walk user stb k va m ≡ Paged p pa → walk user stb k (va + i) m ≡ Paged p (pa + i)
  unfolding walk walk_from
  walk_beside m p pa h =
      let s = (walk_paged user stb k va m p pa h).found in
      rw (segment_beside m, s) (page_beside p (number 4 m p) pa (rw s at h))

  nonpaged_beside : (e pa : ℕ) → nonpaged_of user k va e ≡ Direct pa → nonpaged_of user k (va + i) e ≡ Direct (pa + i)
  unfolding nonpaged_of
  nonpaged_beside e pa h = rw number_beside (go (leb (va / 0x1000 % 0x400) (e / 0x1000 % 0x400) && permits user k e) h)
    where
      number_beside : (va + i) / 0x1000 % 0x400 ≡ va / 0x1000 % 0x400
      number_beside = omega arith

      go : (t : Bool) → cond t (Direct (e / 0x40_0000 * 0x40_0000 + va % 0x40_0000)) (Fault (fault_of k)) ≡ Direct pa
          → cond t (Direct (e / 0x40_0000 * 0x40_0000 + (va + i) % 0x40_0000)) (Fault (fault_of k)) ≡ Direct (pa + i)
      go true q =
          let f : e / 0x40_0000 * 0x40_0000 + va % 0x40_0000 ≡ pa = cc in
          ap (λ (x : ℕ). Direct x) (omega arith)
      go false q = let z : ◌≡◌ {A = ℕ} 0 1 = cc in absurd (omega arith)

  pub direct_beside : (m : Memory) (pa : ℕ) → walk user stb k va m ≡ Direct pa → walk user stb k (va + i) m ≡ Direct (pa + i)
  unfolding walk walk_from page_of
  direct_beside m pa h = rw (segment_beside m) (go (segment stb va m) h)
    where
      paged : (p x : ℕ) (t : Bool) → cond t (Paged p x) (Fault (fault_of k)) ≡ Direct pa → ⊥
      paged p x true q = let z : ◌≡◌ {A = ℕ} 0 1 = cc in omega arith
      paged p x false q = let z : ◌≡◌ {A = ℕ} 0 1 = cc in omega arith

      go : (s : Segment) → walk_from user k va m s ≡ Direct pa → walk_from user k (va + i) m s ≡ Direct (pa + i)
      go Outside q = let z : ◌≡◌ {A = ℕ} 0 1 = cc in absurd (omega arith)
      go Invalid q = let z : ◌≡◌ {A = ℕ} 0 1 = cc in absurd (omega arith)
      go (Nonpaged e) q = nonpaged_beside e pa q
      go (Table p) q = absurd (paged p (number 4 m p / 0x1000 * 0x1000 + va % 0x1000) (valid (number 4 m p) && permits user k (number 4 m p)) q)

-- a memory of the same length with the same two entries has the same walk
module _ (user : Bool) (stb : ℕ) (k : AccessKind) (va : ℕ) (m n : Memory) (p pa : ℕ) (len : length n ≡ length m) (first : number 4 n (segment_place stb va) ≡ number 4 m (segment_place stb va)) where
  segment_kept : segment stb va n ≡ segment stb va m
  unfolding segment segment_of
  segment_kept = rw (len, first) refl

  pub walk_kept : number 4 n p ≡ number 4 m p → walk user stb k va m ≡ Paged p pa → walk user stb k va n ≡ Paged p pa
  unfolding walk walk_from
  walk_kept e h =
      let s = (walk_paged user stb k va m p pa h).found in
      rw (segment_kept, s, e) (rw s at h)
