-- A law for each way out of a function.
-- Assumes nothing.
use mathlib.Core.Path.{◌≡◌, refl, sym, ◌∙◌}
use mathlib.Core.Bool.{Bool, true, false, not, ◌&&◌}
use Prim.Native.Nat.{ℕ, ◌+◌, ◌*◌, ◌/◌, ◌%◌, ◌^◌, ◌≤◌, ◌<◌}
use native.Mathlib.Omega.{arith}
use lib.Dec.{leb, eqb}
use lib.ListN.{length, set, get_or-eq_default}
use lib.Seq.{set_out}
use borrow.Author.Tests.{le-leb, lt-leb, eq-eqb, ne_eqb}
use Rattle.word.specs.Fields.{field_of, set_of}
use Rattle.memory.specs.Exceptions.{walk_fault}
use Rattle.memory.specs.Answers.{answer_of}
use Rattle.memory.specs.Bytes.{Memory, byte_at, load}
use Rattle.memory.proofs.AnswerLaws.{load_held, load_inside, load_outside}
use Rattle.mmu.specs.declared.AccessKind.{AccessKind}
use Rattle.mmu.specs.declared.Segment.{Segment}
use Rattle.mmu.specs.declared.Segment.TheVariants.{Outside, Invalid, Nonpaged, Table}
use Rattle.mmu.specs.declared.Walk.{Walk}
use Rattle.mmu.specs.declared.Walk.TheVariants.{Fault, Direct, Paged}
use Rattle.mmu.specs.Walk.{fault_of, is_write, segment_place, page_place, valid, nonpaged, permits, segment_of, segment, nonpaged_of, page_of, walk_from, walk, marked, fresh, recorded}
use Rattle.mmu.proofs.MarkLaws.{marked_byte}
use Rattle.mmu.proofs.ShapeLaws.{segment_table}

-- the first stage, by the segment entry's word: v is its valid bit, n its segment bit, p the page entry's place
module _ (m : Memory) (va e : ℕ) (v : Bool) (is : v ≡ valid e) where
  pub of_invalid : v ≡ false → Invalid ≡ segment_of m va e
  unfolding segment_of
  of_invalid f = simp (sym is, f)

  module _ (t : v ≡ true) (n : Bool) (by : n ≡ nonpaged e) where
    pub of_nonpaged : n ≡ true → Nonpaged e ≡ segment_of m va e
    unfolding segment_of
    of_nonpaged s = simp (sym is, t, sym by, s)

    module _ (s : n ≡ false) (p : ℕ) (place : p ≡ page_place e va) where
      pub of_table : p + 4 ≤ length m → Table p ≡ segment_of m va e
      unfolding segment_of
      of_table h = rw (← is, t, ← by, s, ← place, le-leb _ _ h) refl

      pub of_outside : length m < p + 4 → Outside ≡ segment_of m va e
      unfolding segment_of
      of_outside h = rw (← is, t, ← by, s, ← place, lt-leb _ _ h) refl

-- the first stage: x is the answer of the load at p
module _ (stb va : ℕ) (m : Memory) (p x : ℕ) (place : p ≡ segment_place stb va) (e : answer_of x ≡ load 4 m p) where
  pub entry_inside : x < 2 ^ 32 → (w : ℕ) (s : Segment) → w ≡ x % 2 ^ 32 → s ≡ segment_of m va w → s ≡ segment stb va m
  unfolding segment
  entry_inside h w s f g =
      let i = load_inside 4 m p x e h in
      rw (← place, i, ← load_held 4 m p x e i, ← f) g

  pub entry_outside : 2 ^ 32 ≤ x → Outside ≡ segment stb va m
  unfolding segment
  entry_outside h = rw (← place, load_outside 4 m p x e h) refl

-- the second stage: t is what the entry permits
module _ (user : Bool) (k : AccessKind) (va e : ℕ) (t : Bool) (is : t ≡ permits user k e) where
  -- a is the page number of the address, b the bound, x the segment's base, y the offset in it, z both
  module _ (a b : ℕ) (number : a ≡ field_of va 12 10) (bound : b ≡ field_of e 12 10) where
    pub nonpaged_permitted : (leb a b && t) ≡ true → (x y z : ℕ) → e < 2 ^ 32 → x ≡ field_of e 22 10 → y ≡ field_of va 0 22
        → z ≡ x * 0x40_0000 + y → Direct z ≡ nonpaged_of user k va e
    unfolding nonpaged_of
    nonpaged_permitted f x y z l g h i =
        let d : z ≡ e / 0x40_0000 * 0x40_0000 + va % 0x40_0000 = omega arith in
        rw (← number, ← bound, ← is, f, d) refl

    pub nonpaged_fault : (leb a b && t) ≡ false → (c : ℕ) → c ≡ fault_of k → Fault c ≡ nonpaged_of user k va e
    unfolding nonpaged_of
    nonpaged_fault f c g = rw (← number, ← bound, ← is, f, g) refl

  -- v is the valid bit, x the page's base, y the offset in it, z both
  module _ (p : ℕ) (v : Bool) (by : v ≡ valid e) where
    pub page_permitted : (v && t) ≡ true → (x y z : ℕ) → e < 2 ^ 32 → x ≡ field_of e 12 20 → y ≡ field_of va 0 12
        → z ≡ x * 0x1000 + y → Paged p z ≡ page_of user k va p e
    unfolding page_of
    page_permitted f x y z l g h i =
        let d : z ≡ e / 0x1000 * 0x1000 + va % 0x1000 = omega arith in
        rw (← by, ← is, f, d) refl

    pub page_fault : (v && t) ≡ false → (c : ℕ) → c ≡ fault_of k → Fault c ≡ page_of user k va p e
    unfolding page_of
    page_fault f c g = rw (← by, ← is, f, g) refl

-- the walk, by what the first stage gives
module _ (user : Bool) (stb : ℕ) (k : AccessKind) (va : ℕ) (m : Memory) (s : Segment) (is : s ≡ segment stb va m) where
  pub walk_outside : s ≡ Outside → Fault walk_fault ≡ walk user stb k va m
  unfolding walk walk_from
  walk_outside e = rw (← is, e) refl

  pub walk_invalid : s ≡ Invalid → (c : ℕ) → c ≡ fault_of k → Fault c ≡ walk user stb k va m
  unfolding walk walk_from
  walk_invalid e c f = rw (← is, e, f) refl

  pub walk_nonpaged : (e : ℕ) → s ≡ Nonpaged e → (w : Walk) → w ≡ nonpaged_of user k va e → w ≡ walk user stb k va m
  unfolding walk walk_from
  walk_nonpaged e f w g = rw (← is, f) g

  pub walk_table : (p : ℕ) → s ≡ Table p → (x e : ℕ) (w : Walk) → answer_of x ≡ load 4 m p → e ≡ x % 2 ^ 32
      → w ≡ page_of user k va p e → w ≡ walk user stb k va m
  unfolding walk walk_from
  walk_table p f x e w l g h =
      rw (← is, f, ← load_held 4 m p x l (segment_table stb va m p (sym is ∙ f)).held, ← g) h

-- recording
module _ (k : AccessKind) (b : ℕ) (byte : b < 256) (w : Bool) (is : w ≡ is_write k) (x : ℕ) (e : x ≡ set_of b 3) where
  pub marked_write : w ≡ true → (y z : ℕ) → y ≡ set_of x 4 → z ≡ field_of y 0 8 → z ≡ marked k b
  unfolding marked
  marked_write t y z f g =
      let l = marked_byte k b byte in
      let d : marked k b ≡ y = rw (← is, t, f, e) refl in
      omega arith

  pub marked_other : w ≡ false → (z : ℕ) → z ≡ field_of x 0 8 → z ≡ marked k b
  unfolding marked
  marked_other t z g =
      let l = marked_byte k b byte in
      let d : marked k b ≡ x = rw (← is, t, e) refl in
      omega arith

pub past_end : (m : Memory) (i : ℕ) → length m ≤ i → 0 ≡ byte_at m i
past_end m i h = sym (get_or-eq_default m 0 h)

pub set_past_end : (m : Memory) (i b : ℕ) → length m ≤ i → m ≡ set m i b
set_past_end m i b h = sym (set_out m i b h)

-- b is the entry's low byte, c the same with its bits
module _ (k : AccessKind) (p : ℕ) (m : Memory) (b c : ℕ) (is : b ≡ byte_at m (p + 3)) (by : c ≡ marked k b) where
  pub fresh_test : not (eqb c b) ≡ fresh k p m
  unfolding fresh
  fresh_test = rw (by, is) refl

  pub recorded_new : (c ≡ b → ⊥) → (n : Memory) → n ≡ set m (p + 3) c → n ≡ recorded k p m
  unfolding recorded
  recorded_new d n e = rw (← fresh_test, ne_eqb _ _ d, ← is, ← by) e

  pub recorded_old : c ≡ b → m ≡ recorded k p m
  unfolding recorded
  recorded_old e = rw (← fresh_test, eq-eqb _ _ e) refl
