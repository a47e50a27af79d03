-- The accesses to the words of a quad-word that one walk has found, and its place.
-- Assumes nothing.
use Prim.Native.Nat.{ℕ, ◌+◌, ◌/◌, ◌%◌, ◌^◌, ◌<◌, ◌≤◌}
use mathlib.Core.Path.{◌≡◌, refl, sym, ap, ◌∙◌}
use mathlib.Core.Logic.{◌⊎◌, inl, inr}
use mathlib.Core.Bool.{Bool, true, false, cond, not, ◌&&◌, ◌||◌}
use native.Mathlib.Decide.{dec_lt}
use native.Mathlib.Omega.{arith}
use lib.ListN.{length}
use lib.Dec.{eqb, leb}
use borrow.Author.Tests.{le-leb, lt-leb, leb-true, eq-eqb, ne_eqb, eqb-true, eqb-false}
use Rattle.word.proofs.CaseLaws.{and_both, missed}
use Rattle.word.specs.declared.Width.TheVariants.{Word}
use Rattle.memory.specs.Answers.{Answer, good, answer_of}
use Rattle.memory.specs.Bytes.{Memory, number, holds, load, stored, store_answer, store_memory}
use Rattle.memory.proofs.AnswerLaws.{answer_high}
use Rattle.memory.proofs.ByteLaws.{length_stored, byte_other, number_other}
use Rattle.mmu.specs.declared.AccessKind.{AccessKind}
use Rattle.mmu.specs.declared.AccessKind.TheVariants.{Read, Write}
use Rattle.mmu.specs.declared.Walk.{Walk}
use Rattle.mmu.specs.declared.Walk.TheVariants.{Fault, Direct, Paged}
use Rattle.mmu.specs.Walk.{segment_place, walk, fresh}
use Rattle.mmu.proofs.BesideLaws.{walk_beside, walk_kept}
use Rattle.mmu.proofs.ShapeLaws.{walk_paged}
use Rattle.access_spec.specs.Access.{read, write, Response, response, touch, follow}
use Rattle.access_spec.specs.Journal.{Journal, Journaled, journaled, logging}
use Rattle.access.specs.Followed.{followed, regime_for, fits_width}
use Rattle.access.specs.EffectFree.{nowhere}
use Rattle.access.specs.Quads.{shares_walk, shared_of, quad_place, Quad}
use Rattle.access.proofs.JournalLaws.{entry_old}
use Rattle.access.proofs.AccessLaws.{read_virtual, read_paged, write_virtual, write_paged}

-- a number that stands for an answer with a value
low : (x v : ℕ) → answer_of x ≡ good v → x < 2 ^ 32
low x v e = go (dec_lt x (2 ^ 32))
  where
    go : Dec (x < 2 ^ 32) → x < 2 ^ 32
    go (yes h) = h
    go (no h) = let z = sym (answer_high x (omega arith)) ∙ e in let y : ◌≡◌ {A = ℕ} 0 1 = cc in absurd (omega arith)

-- a word lies below or above a quad-word that it does not lie in
beside : (p pa i : ℕ) → p % 4 ≡ 0 → pa % 16 ≡ 0 → (p / 16 ≡ pa / 16 → ⊥) → i < 16 → i % 4 ≡ 0 → (p + 4 ≤ pa + i) ⊎ (pa + i + 4 ≤ p)
beside p pa i a b d l e = go (dec_lt p pa)
  where
    go : Dec (p < pa) → (p + 4 ≤ pa + i) ⊎ (pa + i + 4 ≤ p)
    go (yes h) = inl (omega arith)
    go (no h) = inr (omega (arith, d))

module _ (user : Bool) (stb : ℕ) (a : ℕ) (m : Memory) (pa i : ℕ) (few : i < 16) (word : i % 4 ≡ 0) (virtual : a < 2 ^ 32) where
  near : a % 16 ≡ 0 → a + i < 2 ^ 32
  near h = omega arith

  in_page : a % 16 ≡ 0 → a % 0x1000 + i < 0x1000
  in_page h = omega arith

  aligned : a % 16 ≡ 0 → fits_width Word (a + i) ≡ true
  aligned h = eq-eqb ((a + i) % 4) 0 (omega arith)

  pub read_near : Quad user stb Read a m pa → (z : Answer) → z ≡ load 4 m (pa + i) → (o : Journal)
      → response z (journaled m o) ≡ logging (read (regime_for stb user true) Word (a + i)) (journaled m o)
  read_near k z g o =
      read_virtual stb user true Word (a + i) m o (fits_width Word (a + i)) (response z (journaled m o)) (near k.start) refl (aligned k.start) refl
      (read_paged (regime_for stb user true) Word (a + i) m o (walk user stb Read (a + i) m) (walk user stb Read (a + i) m) k.entry (pa + i) z m o
      refl (walk_beside user stb Read a i (in_page k.start) m k.entry pa k.found) (entry_old Read k.entry m o (fresh Read k.entry m) refl k.old) g)

  pub read_low : Quad user stb Read a m pa → (x : ℕ) → answer_of x ≡ load 4 m (pa + i) → x < 2 ^ 32
  unfolding load
  read_low k x e =
      let f : holds m (pa + i) 4 ≡ true = le-leb (pa + i + 4) (length m) (omega (arith, k.inside, k.place)) in
      low x (number 4 m (pa + i)) (rw f at e)

  module _ (v : ℕ) (k : Quad user stb Write a m pa) (o : Journal) where
    held : holds m (pa + i) 4 ≡ true
    held = le-leb (pa + i + 4) (length m) (omega (arith, k.inside, k.place))

    pub write_near : (g : Response Journaled Answer) → g ≡ followed (write (regime_for 0 true true) Word 0 v) (Direct (pa + i)) (journaled m o)
        → g ≡ logging (write (regime_for stb user true) Word (a + i) v) (journaled m o)
    write_near g e =
        write_virtual stb user true Word (a + i) v m o (fits_width Word (a + i)) g (near k.start) refl (aligned k.start) refl
        (write_paged (regime_for stb user true) Word (a + i) v m o (walk user stb Write (a + i) m) (walk user stb Write (a + i) m) k.entry (pa + i) g m o
        refl (walk_beside user stb Write a i (in_page k.start) m k.entry pa k.found) (entry_old Write k.entry m o (fresh Write k.entry m) refl k.old) e)

    -- the store leaves both entries
    entry_word : k.entry % 4 ≡ 0
    entry_word = (walk_paged user stb Write a m k.entry pa k.found).inside.aligned

    segment_word : segment_place stb a % 4 ≡ 0
    segment_word = omega arith

    apart_entry : (k.entry + 4 ≤ pa + i) ⊎ (pa + i + 4 ≤ k.entry)
    apart_entry = beside k.entry pa i entry_word k.place k.apart few word

    last_byte : (k.entry + 4 ≤ pa + i) ⊎ (pa + i + 4 ≤ k.entry) → (k.entry + 3 < pa + i) ⊎ (pa + i + 4 ≤ k.entry + 3)
    last_byte (inl h) = inl (omega arith)
    last_byte (inr h) = inr (omega arith)

    fresh_kept : fresh Write k.entry (stored 4 m (pa + i) v) ≡ fresh Write k.entry m
    unfolding fresh
    fresh_kept = rw (byte_other 4 m (pa + i) v (k.entry + 3) (last_byte apart_entry)) refl

    kept : Quad user stb Write a (stored 4 m (pa + i) v) pa
    kept =
        record {
          entry = k.entry;
          found =
              walk_kept user stb Write a m (stored 4 m (pa + i) v) k.entry pa (length_stored 4 m (pa + i) v)
              (number_other 4 4 m (pa + i) (segment_place stb a) v (beside (segment_place stb a) pa i segment_word k.place k.clear few word))
              (number_other 4 4 m (pa + i) k.entry v apart_entry) k.found;
          old = fresh_kept ∙ k.old;
          start = k.start;
          place = k.place;
          inside = rw (length_stored 4 m (pa + i) v) k.inside;
          apart = k.apart;
          clear = k.clear;
        }

    module _ (x : ℕ) (n : Memory) (b : Journal)
        (e : response (answer_of x) (journaled n b) ≡ followed (write (regime_for 0 true true) Word 0 v) (Direct (pa + i)) (journaled m o)) where
      answered : answer_of x ≡ good 0
      unfolding followed follow touch store_answer
      answered = ap (λ (g : Response Journaled Answer). g.out) e ∙ rw held refl

      left : n ≡ stored 4 m (pa + i) v
      unfolding followed follow touch store_memory
      left = ap (λ (g : Response Journaled Answer). g.world.memory) e ∙ rw held refl

      pub write_low : x < 2 ^ 32
      write_low = low x 0 answered

      pub quad_kept : Quad user stb Write a n pa
      quad_kept = rw left kept

-- ---- places

-- the place of a quad-word is an address: it lies there
pub quad_place_law : (user : Bool) (stb : ℕ) (k : AccessKind) (a : ℕ) (m : Memory) → quad_place user stb k a m < 2 ^ 32
    → Quad user stb k a m (quad_place user stb k a m)
unfolding quad_place
quad_place_law user stb k a m h = go (walk user stb k a m) refl h
  where
    quad_at : (p pa : ℕ) → walk user stb k a m ≡ Paged p pa → shares_walk stb k a m p pa ≡ true → Quad user stb k a m pa
    quad_at p pa e t =
        let f5 = and_both (not (fresh k p m) && eqb (a % 16) 0 && eqb (pa % 16) 0 && leb (pa + 16) (length m) && not (eqb (p / 16) (pa / 16))) (not (eqb (segment_place stb a / 16) (pa / 16))) t in
        let f4 = and_both (not (fresh k p m) && eqb (a % 16) 0 && eqb (pa % 16) 0 && leb (pa + 16) (length m)) (not (eqb (p / 16) (pa / 16))) f5.0 in
        let f3 = and_both (not (fresh k p m) && eqb (a % 16) 0 && eqb (pa % 16) 0) (leb (pa + 16) (length m)) f4.0 in
        let f2 = and_both (not (fresh k p m) && eqb (a % 16) 0) (eqb (pa % 16) 0) f3.0 in
        let f1 = and_both (not (fresh k p m)) (eqb (a % 16) 0) f2.0 in
        record {
          entry = p;
          found = e;
          old = missed (fresh k p m) f1.0;
          start = eqb-true (a % 16) 0 f1.1;
          place = eqb-true (pa % 16) 0 f2.1;
          inside = leb-true (pa + 16) (length m) f3.1;
          apart = eqb-false (p / 16) (pa / 16) (missed _ f4.1);
          clear = eqb-false (segment_place stb a / 16) (pa / 16) (missed _ f5.1);
        }

    paged_at : (p pa : ℕ) → walk user stb k a m ≡ Paged p pa → (s : Bool) → shares_walk stb k a m p pa ≡ s → cond s pa nowhere < 2 ^ 32
        → Quad user stb k a m (cond s pa nowhere)
    paged_at p pa e true es l = quad_at p pa e es
    paged_at p pa e false es l = absurd (omega (arith, l))

    go : (w : Walk) → walk user stb k a m ≡ w → shared_of stb k a m w < 2 ^ 32 → Quad user stb k a m (shared_of stb k a m w)
    go (Fault c) e l = absurd (omega (arith, l))
    go (Direct pa) e l = absurd (omega (arith, l))
    go (Paged p pa) e l = paged_at p pa e (shares_walk stb k a m p pa) refl l

-- the same of a number that is the place
pub place_quad : (user : Bool) (stb : ℕ) (k : AccessKind) (a : ℕ) (m : Memory) (x : ℕ) → x ≡ quad_place user stb k a m → x < 2 ^ 32 → Quad user stb k a m x
place_quad user stb k a m x e h = rw e (quad_place_law user stb k a m (rw (← e) h))

pub place_shared : (user : Bool) (stb : ℕ) (k : AccessKind) (a : ℕ) (m : Memory) (w : Walk) → w ≡ walk user stb k a m → (x : ℕ) → x ≡ shared_of stb k a m w
    → x ≡ quad_place user stb k a m
unfolding quad_place
place_shared user stb k a m w e x f = f ∙ ap (shared_of stb k a m) e

module _ (stb : ℕ) (k : AccessKind) (a : ℕ) (m : Memory) (w : Walk) (p pa : ℕ) (e : w ≡ Paged p pa) (t : Bool) (et : t ≡ shares_walk stb k a m p pa) where
  pub shared_found : t ≡ true → pa ≡ shared_of stb k a m w
  shared_found h = rw (e, sym et ∙ h) refl

  pub shared_not : t ≡ false → nowhere ≡ shared_of stb k a m w
  shared_not h = rw (e, sym et ∙ h) refl

-- ---- the test, one part after another

odd_quad : (f u v l p e : Bool) → (not u || not v) ≡ true → false ≡ (f && u && v && l && p && e)
odd_quad false u v l p e h = refl
odd_quad true false v l p e h = refl
odd_quad true true false l p e h = refl
odd_quad true true true l p e h = cc

no_third : (b d e : Bool) → false ≡ (b && false && d && e)
no_third true d e = refl
no_third false d e = refl

no_second : (b e : Bool) → false ≡ (b && false && e)
no_second true e = refl
no_second false e = refl

all_even : (u v : Bool) → (not u || not v) ≡ false → (u && v) ≡ true
all_even true true h = refl
all_even true false h = sym h
all_even false v h = sym h

module _ (stb : ℕ) (k : AccessKind) (a : ℕ) (m : Memory) (p pa : ℕ) where
  pub shares_fresh : (f : Bool) → f ≡ fresh k p m → f ≡ true → false ≡ shares_walk stb k a m p pa
  shares_fresh f ef h = rw (sym ef ∙ h) refl

  pub shares_odd : (not (eqb (a % 16) 0) || not (eqb (pa % 16) 0)) ≡ true → false ≡ shares_walk stb k a m p pa
  shares_odd h = odd_quad (not (fresh k p m)) (eqb (a % 16) 0) (eqb (pa % 16) 0) _ _ _ h

  pub shares_past : length m < pa + 16 → false ≡ shares_walk stb k a m p pa
  shares_past h = rw (lt-leb (pa + 16) (length m) h) (no_third (not (fresh k p m) && eqb (a % 16) 0 && eqb (pa % 16) 0) _ _)

  pub shares_entry : p / 16 ≡ pa / 16 → false ≡ shares_walk stb k a m p pa
  shares_entry h = rw (eq-eqb (p / 16) (pa / 16) h) (no_second (not (fresh k p m) && eqb (a % 16) 0 && eqb (pa % 16) 0 && leb (pa + 16) (length m)) _)

  pub shares_rest : (f : Bool) → f ≡ fresh k p m → f ≡ false → (not (eqb (a % 16) 0) || not (eqb (pa % 16) 0)) ≡ false → pa + 16 ≤ length m
      → (p / 16 ≡ pa / 16 → ⊥) → (e : ℕ) → e ≡ segment_place stb a → not (eqb (e / 16) (pa / 16)) ≡ shares_walk stb k a m p pa
  shares_rest f ef h o l n e ee =
      rw (ee, sym ef ∙ h, le-leb (pa + 16) (length m) l, ne_eqb (p / 16) (pa / 16) n, all_even (eqb (a % 16) 0) (eqb (pa % 16) 0) o) refl
