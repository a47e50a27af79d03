-- Memories with the same tables up to the recording bits: the same walks, and the same premises.
-- Assumes nothing.
use Prim.Native.Nat.{ℕ, ◌+◌, ◌*◌, ◌/◌, ◌%◌, ◌^◌, ◌<◌}
use mathlib.Core.Path.{◌≡◌, refl, sym, ap, ◌∙◌}
use mathlib.Core.Logic.{inl, inr}
use mathlib.Core.Bool.{Bool, true, false, cond, ◌&&◌}
use native.Mathlib.Omega.{arith}
use lib.ListN.{length}
use lib.Dec.{leb}
use borrow.Author.Tests.{leb-true}
use Rattle.memory.specs.Bytes.{Memory, number, holds}
use Rattle.mmu.specs.declared.AccessKind.{AccessKind}
use Rattle.mmu.specs.declared.AccessKind.TheVariants.{Write}
use Rattle.mmu.specs.declared.Segment.{Segment}
use Rattle.mmu.specs.declared.Segment.TheVariants.{Outside, Invalid, Nonpaged, Table}
use Rattle.mmu.specs.declared.Walk.TheVariants.{Fault, Direct, Paged}
use Rattle.mmu.specs.Walk.{fault_of, segment_place, valid, permits, segment_of, segment, nonpaged_of, page_of, walk_from, walk}
use Rattle.mmu.proofs.MarkLaws.{Alike}
use Rattle.mmu.proofs.ShapeLaws.{segment_table}
use Rattle.isolation.specs.Sealed.{lands, Leads, Reaches, SegmentWord, PageWord, TableWord, Sealed}

-- the memory n has the tables of m, up to Referenced and Modified
pub record Like (stb : ℕ) (m n : Memory) : Type 0 where
  pub len : length n ≡ length m
  pub segments : (w : ℕ) → SegmentWord stb m w → number 4 n w ≡ number 4 m w
  pub pages : (w : ℕ) → PageWord stb m w → Alike (number 4 n w) (number 4 m w)

pub alike_same : (v w : ℕ) → v ≡ w → Alike v w
alike_same v w e = record { low = ap (λ (x : ℕ). x % 8) e; high = ap (λ (x : ℕ). x / 32) e }

-- a test that passes lets its first branch be compared under it
cond_same : {A : Type 0} (b : Bool) (x y z : A) → (b ≡ true → x ≡ y) → cond b x z ≡ cond b y z
cond_same true x y z h = h refl
cond_same false x y z h = refl

-- the first stage goes by the length of memory and by the segment entry
segment_of_like : (m n : Memory) (va e : ℕ) → length n ≡ length m → segment_of n va e ≡ segment_of m va e
unfolding segment_of
segment_of_like m n va e l = rw l refl

pub segment_like : (stb va : ℕ) (m n : Memory) → va < 2 ^ 32 → Like stb m n → segment stb va n ≡ segment stb va m
unfolding segment
segment_like stb va m n v l =
    rw l.len
    (cond_same (holds m (segment_place stb va) 4) _ _ Outside λ t.
    segment_of_like m n va (number 4 n (segment_place stb va)) l.len
    ∙ ap (λ (e : ℕ). segment_of m va e)
    (l.segments (segment_place stb va)
    (record { va = va; virtual = v; here = refl; inside = leb-true (segment_place stb va + 4) (length m) t })))

-- validity and permission go by the low three bits, the address by those above the eleventh
low_0 : (v w : ℕ) → v % 8 ≡ w % 8 → v / 1 % 2 ≡ w / 1 % 2
low_0 v w h = omega arith

low_1 : (v w : ℕ) → v % 8 ≡ w % 8 → v / 2 % 2 ≡ w / 2 % 2
low_1 v w h = omega arith

low_2 : (v w : ℕ) → v % 8 ≡ w % 8 → v / 4 % 2 ≡ w / 4 % 2
low_2 v w h = omega arith

page_like : (user : Bool) (k : AccessKind) (va p v w : ℕ) → Alike v w → page_of user k va p v ≡ page_of user k va p w
unfolding page_of
page_like user k va p v w d =
    let h : v / 4096 ≡ w / 4096 = omega arith in
    rw (low_0 v w d.low, low_1 v w d.low, low_2 v w d.low, h) refl

pub walk_like : (stb : ℕ) (k : AccessKind) (va : ℕ) (m n : Memory) → va < 2 ^ 32 → Like stb m n → walk true stb k va n ≡ walk true stb k va m
unfolding walk walk_from
walk_like stb k va m n v l = rw (segment_like stb va m n v l) (go (segment stb va m) refl)
  where
    go : (x : Segment) → segment stb va m ≡ x → walk_from true k va n x ≡ walk_from true k va m x
    go Outside e = refl
    go Invalid e = refl
    go (Nonpaged w) e = refl
    go (Table w) e =
        page_like true k va w (number 4 n w) (number 4 m w) (l.pages w (record { va = va; virtual = v; here = e }))

module _ (stb : ℕ) (m n : Memory) (l : Like stb m n) where
  leads_back : (k : AccessKind) (pa : ℕ) → Leads stb n k pa → Leads stb m k pa
  leads_back k pa t = record { va = t.va; virtual = t.virtual; there = rw (walk_like stb k t.va m n t.virtual l) at t.there }

  reaches_back : (w : ℕ) → Reaches stb n w → Reaches stb m w
  reaches_back w t = record { pa = t.pa; led = leads_back Write t.pa t.led; first = t.first; last = t.last }

  segment_back : (w : ℕ) → SegmentWord stb n w → SegmentWord stb m w
  segment_back w t = record { va = t.va; virtual = t.virtual; here = t.here; inside = rw l.len at t.inside }

  page_back : (w : ℕ) → PageWord stb n w → PageWord stb m w
  page_back w t =
      record { va = t.va; virtual = t.virtual; here = sym (segment_like stb t.va m n t.virtual l) ∙ t.here }

  table_back : (w : ℕ) → TableWord stb n w → TableWord stb m w
  table_back w (inl t) = inl (segment_back w t)
  table_back w (inr t) = inr (page_back w t)

  -- the premises speak of the tables alone
  pub sealed_like : (H : ℕ → Type 0) → Sealed H stb m → Sealed H stb n
  sealed_like H s =
      record {
        unreached = λ k pa t. s.unreached k pa (leads_back k pa t);
        unhidden = λ w t. s.unhidden w (table_back w t);
        unwritten = λ w t u. s.unwritten w (table_back w t) (reaches_back w u);
        apart = λ w a b. s.apart w (segment_back w a) (page_back w b);
      }

-- a walk keeps the place in the page
pub walk_offset : (stb : ℕ) (k : AccessKind) (va : ℕ) (m : Memory) (pa : ℕ) → lands (walk true stb k va m) pa → pa % 4096 ≡ va % 4096
unfolding walk walk_from page_of nonpaged_of
walk_offset stb k va m pa h = go (segment stb va m) h
  where
    on_page : (w e : ℕ) (t : Bool) → lands (cond t (Paged e (w / 4096 * 4096 + va % 4096)) (Fault (fault_of k))) pa → pa % 4096 ≡ va % 4096
    on_page w e true p = omega arith
    on_page w e false p = absurd p

    on_segment : (w : ℕ) (t : Bool) → lands (cond t (Direct (w / 4194304 * 4194304 + va % 4194304)) (Fault (fault_of k))) pa → pa % 4096 ≡ va % 4096
    on_segment w true p = omega arith
    on_segment w false p = absurd p

    go : (x : Segment) → lands (walk_from true k va m x) pa → pa % 4096 ≡ va % 4096
    go Outside p = absurd p
    go Invalid p = absurd p
    go (Nonpaged w) p = on_segment w (leb (va / 4096 % 1024) (w / 4096 % 1024) && permits true k w) p
    go (Table e) p = on_page (number 4 m e) e (valid (number 4 m e) && permits true k (number 4 m e)) p

-- table words are aligned, and memory holds them
pub segment_aligned : (stb : ℕ) (m : Memory) (w : ℕ) → SegmentWord stb m w → w % 4 ≡ 0
segment_aligned stb m w t = omega (arith, t.here)

pub page_aligned : (stb : ℕ) (m : Memory) (w : ℕ) → PageWord stb m w → w % 4 ≡ 0
page_aligned stb m w t = (segment_table stb t.va m w t.here).aligned

pub table_aligned : (stb : ℕ) (m : Memory) (w : ℕ) → TableWord stb m w → w % 4 ≡ 0
table_aligned stb m w (inl t) = segment_aligned stb m w t
table_aligned stb m w (inr t) = page_aligned stb m w t
