-- The premises by pages: tests over the words of a memory, with the segment table in a page z, that imply them.
-- Assumes nothing.
use Prim.Native.Nat.{ℕ, ◌+◌, ◌*◌, ◌/◌, ◌%◌, ◌<◌, ◌≤◌}
use mathlib.Core.Path.{◌≡◌, refl, sym, ap, ◌∙◌}
use mathlib.Core.Logic.{inl, inr}
use mathlib.Core.Bool.{Bool, true, false, cond, not, ◌&&◌, ◌||◌, true≢false, or-true}
use mathlib.Core.List.{List, [], ◌∷◌}
use native.Mathlib.Omega.{arith}
use lib.ListN.{length}
use lib.Dec.{eqb, leb}
use borrow.Author.Tests.{leb-true, le-leb, eqb-true, eqb-false, eq-eqb}
use Rattle.word.proofs.CaseLaws.{or_left, or_right}
use Rattle.memory.specs.Bytes.{holds}
use Rattle.mmu.specs.declared.AccessKind.{AccessKind}
use Rattle.mmu.specs.declared.AccessKind.TheVariants.{Fetch, Read, Write}
use Rattle.mmu.specs.declared.Segment.{Segment}
use Rattle.mmu.specs.declared.Segment.TheVariants.{Outside, Invalid, Nonpaged, Table}
use Rattle.mmu.specs.declared.Walk.{Walk}
use Rattle.mmu.specs.declared.Walk.TheVariants.{Fault, Direct, Paged}
use Rattle.mmu.specs.Walk.{fault_of, segment_place, page_place, valid, nonpaged, permits, segment_of, segment, nonpaged_of, page_of, walk_from, walk}
use Rattle.mmu.proofs.ShapeLaws.{segment_table}
use Rattle.isolation.specs.Sealed.{page, lands, Leads, SegmentWord, PageWord, TableWord, Reaches, Sealed}
use Rattle.isolation_witness.specs.Memories.{Words, word_at, memory_of, only}
use Rattle.isolation_witness.specs.Premises.{Premise, unreached, unhidden, unwritten, apart, Meets}
use Rattle.isolation_witness.proofs.MemoryLaws.{laid_length, number_laid}

-- ---- the tests

abbrev pub any_of : (ℕ → Bool) → List ℕ → Bool
any_of t [] = false
any_of t (e ∷ es) = t e || any_of t es

-- the valid entries in the page p
abbrev pub entries_in : ℕ → Words → List ℕ
entries_in p [] = []
entries_in p (w ∷ ws) = cond (eqb (w.0 / 0x1000) p && valid w.1) (w.1 ∷ entries_in p ws) (entries_in p ws)

-- a segment or page entry leads a user access to the page q
abbrev pub spans : AccessKind → ℕ → ℕ → Bool
spans k q e = permits true k e && (leb (e / 0x40_0000 * 0x400) q && leb q (e / 0x40_0000 * 0x400 + e / 0x1000 % 0x400))

abbrev pub leads_to : AccessKind → ℕ → ℕ → Bool
leads_to k q e = permits true k e && eqb (e / 0x1000) q

abbrev pub reached : ℕ → Words → AccessKind → ℕ → Bool
reached z ws k q =
    any_of (λ e. cond (nonpaged e) (spans k q e) (any_of (leads_to k q) (entries_in (e / 0x1000) ws))) (entries_in z ws)

-- the page q has a page table
abbrev pub has_table : ℕ → Words → ℕ → Bool
has_table z ws q = any_of (λ e. not (nonpaged e) && eqb (e / 0x1000) q) (entries_in z ws)

-- a page table is in a page that a user write reaches
abbrev pub writes_table : ℕ → Words → Bool
writes_table z ws = any_of (λ e. not (nonpaged e) && reached z ws Write (e / 0x1000)) (entries_in z ws)

abbrev is_paged : Walk → Bool
is_paged (Fault c) = false
is_paged (Direct p) = false
is_paged (Paged e p) = true

-- ---- entries

-- a valid word is among the entries of its page
any_entry : (t : ℕ → Bool) (ws : Words) (p w : ℕ) → w / 0x1000 ≡ p → valid (word_at ws w) ≡ true → t (word_at ws w) ≡ true
    → any_of t (entries_in p ws) ≡ true
unfolding word_at
any_entry t [] p w i v h = absurd (true≢false (sym v))
any_entry t (x ∷ ws) p w i v h = go (any_entry t ws p w i) (eqb x.0 w) refl v h
  where
    here : eqb x.0 w ≡ true → valid x.1 ≡ true → t x.1 ≡ true → any_of t (entries_in p (x ∷ ws)) ≡ true
    here e v h =
        let s = eqb-true x.0 w e in
        rw (eq-eqb (x.0 / 0x1000) p (ap (λ (y : ℕ). y / 0x1000) s ∙ i), v, h) refl

    later : (c : Bool) → any_of t (entries_in p ws) ≡ true → any_of t (cond c (x.1 ∷ entries_in p ws) (entries_in p ws)) ≡ true
    later true f = rw f (or-true (t x.1))
    later false f = f

    go : (valid (word_at ws w) ≡ true → t (word_at ws w) ≡ true → any_of t (entries_in p ws) ≡ true) → (b : Bool) → eqb x.0 w ≡ b
        → valid (cond b x.1 (word_at ws w)) ≡ true → t (cond b x.1 (word_at ws w)) ≡ true
        → any_of t (entries_in p (x ∷ ws)) ≡ true
    go rest true e v h = here e v h
    go rest false e v h = later (eqb (x.0 / 0x1000) p && valid x.1) (rest v h)

-- ---- walks

-- what the first stage answers, by the entry e
data First (va e : ℕ) : Segment → Type 0 where
  outside : First va e Outside
  invalid : First va e Invalid
  direct : valid e ≡ true → nonpaged e ≡ true → First va e (Nonpaged e)
  table : valid e ≡ true → nonpaged e ≡ false → page_place e va + 4 ≤ 0x4000 → First va e (Table (page_place e va))

module _ (z : ℕ) (inside : z < 4) (ws : Words) where
  first_of_law : (va e : ℕ) → First va e (segment_of (memory_of ws) va e)
  unfolding segment_of
  first_of_law va e = go (valid e) (nonpaged e) (holds (memory_of ws) (page_place e va) 4) refl refl refl
    where
      go : (v n h : Bool) → valid e ≡ v → nonpaged e ≡ n → holds (memory_of ws) (page_place e va) 4 ≡ h
          → First va e (cond v (cond n (Nonpaged e) (cond h (Table (page_place e va)) Outside)) Invalid)
      go true true h v n i = direct v n
      go true false true v n i = table v n (omega (arith, leb-true (page_place e va + 4) (length (memory_of ws)) i, laid_length ws))
      go true false false v n i = outside
      go false n h v i j = invalid

  abbrev entry_of : ℕ → ℕ
  entry_of va = word_at ws (segment_place (z * 0x1000) va)

  first : (va : ℕ) → First va (entry_of va) (segment (z * 0x1000) va (memory_of ws))
  unfolding segment
  first va =
      rw (
        le-leb (segment_place (z * 0x1000) va + 4) (length (memory_of ws)) (omega (arith, laid_length ws)),
        number_laid ws (segment_place (z * 0x1000) va) (omega arith) (omega arith),
      )
      (first_of_law va (entry_of va))

  any_segment : (t : ℕ → Bool) (va : ℕ) → valid (entry_of va) ≡ true → t (entry_of va) ≡ true → any_of t (entries_in z ws) ≡ true
  any_segment t va v h = any_entry t ws z (segment_place (z * 0x1000) va) (omega arith) v h

  pub segment_page : (w : ℕ) → SegmentWord (z * 0x1000) (memory_of ws) w → page w ≡ z
  segment_page w t = omega (arith, t.here)

  -- a test of a paged segment entry with its table in that page
  page_entry : (t : ℕ → Bool) (w : ℕ) → PageWord (z * 0x1000) (memory_of ws) w
      → ((e : ℕ) → nonpaged e ≡ false → e / 0x1000 ≡ page w → t e ≡ true) → any_of t (entries_in z ws) ≡ true
  page_entry t w l f = go (segment (z * 0x1000) l.va (memory_of ws)) (first l.va) l.here
    where
      go : (x : Segment) → First l.va (entry_of l.va) x → x ≡ Table w → any_of t (entries_in z ws) ≡ true
      go Outside outside h = let z : ◌≡◌ {A = ℕ} 0 1 = cc in absurd (omega arith)
      go Invalid invalid h = let z : ◌≡◌ {A = ℕ} 0 1 = cc in absurd (omega arith)
      go (Nonpaged e) (direct v n) h = let z : ◌≡◌ {A = ℕ} 0 1 = cc in absurd (omega arith)
      go (Table p) (table v n i) h =
          let p : page_place (entry_of l.va) l.va ≡ w = cc in
          any_segment t l.va v (f (entry_of l.va) n (omega arith))

  -- ---- where an access is led

  through_segment : (k : AccessKind) (va pa e : ℕ) → lands (nonpaged_of true k va e) pa → spans k (page pa) e ≡ true
  unfolding nonpaged_of
  through_segment k va pa e l = go (leb (va / 0x1000 % 0x400) (e / 0x1000 % 0x400)) (permits true k e) refl refl l
    where
      go : (t b : Bool) → leb (va / 0x1000 % 0x400) (e / 0x1000 % 0x400) ≡ t → permits true k e ≡ b
          → lands (cond (t && b) (Direct (e / 0x40_0000 * 0x40_0000 + va % 0x40_0000)) (Fault (fault_of k))) pa
          → spans k (page pa) e ≡ true
      go true true t b h =
          let s = leb-true (va / 0x1000 % 0x400) (e / 0x1000 % 0x400) t in
          rw (
            b,
            le-leb (e / 0x40_0000 * 0x400) (page pa) (omega arith),
            le-leb (page pa) (e / 0x40_0000 * 0x400 + e / 0x1000 % 0x400) (omega arith),
          )
          refl
      go true false t b h = absurd h
      go false c t b h = absurd h

  through_page : (k : AccessKind) (va pa p e : ℕ) → lands (page_of true k va p e) pa → (valid e ≡ true) × (leads_to k (page pa) e ≡ true)
  unfolding page_of
  through_page k va pa p e l = go (valid e) (permits true k e) refl refl l
    where
      go : (v b : Bool) → valid e ≡ v → permits true k e ≡ b
          → lands (cond (v && b) (Paged p (e / 0x1000 * 0x1000 + va % 0x1000)) (Fault (fault_of k))) pa
          → (valid e ≡ true) × (leads_to k (page pa) e ≡ true)
      go true true v b h = (v, rw (b, eq-eqb (e / 0x1000) (page pa) (omega arith)) refl)
      go true false v b h = absurd h
      go false c v b h = absurd h

  reach : (k : AccessKind) (pa : ℕ) → Leads (z * 0x1000) (memory_of ws) k pa → reached z ws k (page pa) ≡ true
  unfolding walk walk_from
  reach k pa l = go (segment (z * 0x1000) l.va (memory_of ws)) (first l.va) l.there
    where
      test : ℕ → Bool
      test e = cond (nonpaged e) (spans k (page pa) e) (any_of (leads_to k (page pa)) (entries_in (e / 0x1000) ws))

      go : (x : Segment) → First l.va (entry_of l.va) x → lands (walk_from true k l.va (memory_of ws) x) pa
          → reached z ws k (page pa) ≡ true
      go Outside outside h = absurd h
      go Invalid invalid h = absurd h
      go (Nonpaged x) (direct v n) h = any_segment test l.va v (rw n (through_segment k l.va pa (entry_of l.va) h))
      go (Table x) (table v n i) h =
          let p = page_place (entry_of l.va) l.va in
          let g = through_page k l.va pa p (word_at ws p) (rw (number_laid ws p (omega arith) i) at h) in
          any_segment test l.va v
          (rw n (any_entry (leads_to k (page pa)) ws (entry_of l.va / 0x1000) p (omega arith) g.0 g.1))

  -- ---- the premises, by their parts

  pub kind_unreached : (q : ℕ) (k : AccessKind) → reached z ws k q ≡ false → (pa : ℕ) → Leads (z * 0x1000) (memory_of ws) k pa
      → only q (page pa) → ⊥
  kind_unreached q k f pa l p = true≢false (sym (rw p at (reach k pa l)) ∙ f)

  -- where each segment is a nonpaged one
  pub paged_unreached_law : any_of (λ e. not (nonpaged e)) (entries_in z ws) ≡ false → (k : AccessKind) (va e pa : ℕ)
      → walk true (z * 0x1000) k va (memory_of ws) ≡ Paged e pa → ⊥
  unfolding walk walk_from nonpaged_of
  paged_unreached_law f k va e pa h = go (segment (z * 0x1000) va (memory_of ws)) (first va) (ap is_paged h)
    where
      direct_not : (t : Bool) (p c : ℕ) → is_paged (cond t (Direct p) (Fault c)) ≡ false
      direct_not true p c = refl
      direct_not false p c = refl

      go : (x : Segment) → First va (entry_of va) x → is_paged (walk_from true k va (memory_of ws) x) ≡ true → ⊥
      go Outside outside h = true≢false (sym h)
      go Invalid invalid h = true≢false (sym h)
      go (Nonpaged x) (direct v n) h =
          let t = leb (va / 0x1000 % 0x400) (entry_of va / 0x1000 % 0x400) && permits true k (entry_of va) in
          true≢false (sym h ∙ direct_not t (entry_of va / 0x40_0000 * 0x40_0000 + va % 0x40_0000) (fault_of k))
      go (Table x) (table v n i) h = true≢false (sym (any_segment (λ e. not (nonpaged e)) va v (rw n refl)) ∙ f)

  pub segments_unhidden_law : (q : ℕ) → eqb z q ≡ false → (w : ℕ) → SegmentWord (z * 0x1000) (memory_of ws) w → only q (page w) → ⊥
  segments_unhidden_law q f w t p = eqb-false z q f (sym (segment_page w t) ∙ p)

  pub pages_unhidden_law : (q : ℕ) → has_table z ws q ≡ false → (w : ℕ) → PageWord (z * 0x1000) (memory_of ws) w → only q (page w) → ⊥
  pages_unhidden_law q f w t p = true≢false (sym (page_entry (λ e. not (nonpaged e) && eqb (e / 0x1000) q) w t go) ∙ f)
    where
      go : (e : ℕ) → nonpaged e ≡ false → e / 0x1000 ≡ page w → (not (nonpaged e) && eqb (e / 0x1000) q) ≡ true
      go e n h = rw (n, eq-eqb (e / 0x1000) q (h ∙ p)) refl

  -- a write that reaches a word reaches its page
  same_page : (w : ℕ) → w % 4 ≡ 0 → (r : Reaches (z * 0x1000) (memory_of ws) w) → page r.pa ≡ page w
  same_page w z r = omega (arith, r.first, r.last)

  pub segments_unwritten_law : reached z ws Write z ≡ false → (w : ℕ) → SegmentWord (z * 0x1000) (memory_of ws) w
      → Reaches (z * 0x1000) (memory_of ws) w → ⊥
  segments_unwritten_law f w t r =
      kind_unreached z Write f r.pa r.led (same_page w (omega (arith, t.here)) r ∙ segment_page w t)

  pub pages_unwritten_law : writes_table z ws ≡ false → (w : ℕ) → PageWord (z * 0x1000) (memory_of ws) w → Reaches (z * 0x1000) (memory_of ws) w → ⊥
  pages_unwritten_law f w t r = true≢false (sym (page_entry (λ e. not (nonpaged e) && reached z ws Write (e / 0x1000)) w t go) ∙ f)
    where
      go : (e : ℕ) → nonpaged e ≡ false → e / 0x1000 ≡ page w → (not (nonpaged e) && reached z ws Write (e / 0x1000)) ≡ true
      go e n h =
          let p = h ∙ sym (same_page w (segment_table (z * 0x1000) t.va (memory_of ws) w t.here).aligned r) in
          rw (n, p) (reach Write r.pa r.led)

  -- what speaks against a premise
  abbrev pub against : Premise → ℕ → Bool
  against unreached q = reached z ws Fetch q || (reached z ws Read q || reached z ws Write q)
  against unhidden q = eqb z q || has_table z ws q
  against unwritten q = reached z ws Write z || writes_table z ws
  against apart q = has_table z ws z

  pub meets : (q : ℕ) (p : Premise) → against p q ≡ false → Meets p (only q) (z * 0x1000) (memory_of ws)
  meets q unreached f = go
    where
      go : (k : AccessKind) (pa : ℕ) → Leads (z * 0x1000) (memory_of ws) k pa → only q (page pa) → ⊥
      go Fetch = kind_unreached q Fetch (or_left _ _ f)
      go Read = kind_unreached q Read (or_left _ _ (or_right (reached z ws Fetch q) _ f))
      go Write = kind_unreached q Write (or_right (reached z ws Read q) _ (or_right (reached z ws Fetch q) _ f))
  meets q unhidden f = go
    where
      go : (w : ℕ) → TableWord (z * 0x1000) (memory_of ws) w → only q (page w) → ⊥
      go w (inl t) = segments_unhidden_law q (or_left _ _ f) w t
      go w (inr t) = pages_unhidden_law q (or_right (eqb z q) _ f) w t
  meets q unwritten f = go
    where
      go : (w : ℕ) → TableWord (z * 0x1000) (memory_of ws) w → Reaches (z * 0x1000) (memory_of ws) w → ⊥
      go w (inl t) = segments_unwritten_law (or_left _ _ f) w t
      go w (inr t) = pages_unwritten_law (or_right (reached z ws Write z) _ f) w t
  meets q apart f = λ w a b. pages_unhidden_law z f w b (segment_page w a)

  pub all_met : (q : ℕ) → (against unreached q || (against unhidden q || (against unwritten q || against apart q))) ≡ false
      → Sealed (only q) (z * 0x1000) (memory_of ws)
  all_met q f =
      let g = or_right (against unreached q) _ f in
      let h = or_right (against unhidden q) _ g in
      record {
        unreached = meets q unreached (or_left _ _ f);
        unhidden = meets q unhidden (or_left _ _ g);
        unwritten = meets q unwritten (or_left _ _ h);
        apart = meets q apart (or_right (against unwritten q) _ h);
      }
