-- The ways out of the journal's functions and of the accesses, as laws of the definitions.
-- Assumes nothing.
use Prim.Native.Nat.{ℕ, ◌+◌, ◌*◌, ◌/◌, ◌%◌, ◌^◌, ◌<◌, ◌≤◌}
use mathlib.Core.Path.{◌≡◌, refl, sym, ap, ◌∙◌}
use mathlib.Core.Bool.{Bool, true, false}
use native.Mathlib.Nat.{add-zero, mod-eq_of_lt}
use lib.ListN.{get_or, set}
use borrow.Author.Tests.{lt-ltb, le-ltb}
use Rattle.memory.specs.Answers.{answer_of}
use Rattle.memory.specs.Bytes.{Memory, number, load}
use Rattle.memory.proofs.AnswerLaws.{load_held, load_inside, load_outside}
use Rattle.mmu.specs.declared.AccessKind.{AccessKind}
use Rattle.mmu.specs.Walk.{fresh, recorded}
use Rattle.access_spec.specs.Journal.{Journal, count, entry, note, entry_note, restored, journaled}

-- w is the answer of the load of the word at a
module _ (a : ℕ) (m : Memory) (j : Journal) where
  pub note_made : (w : ℕ) → answer_of w ≡ load 4 m a → get_or j 0 0 < 200 → w < 2 ^ 32
      → set (set j (get_or j 0 0 + 1) (a * 2 ^ 32 + w)) 0 (get_or j 0 0 + 1) ≡ note a m j
  unfolding note
  note_made w e h f =
      rw (lt-ltb _ _ h, load_inside 4 m a w e f) (ap (λ (x : ℕ). set (set j (count j + 1) (entry a x)) 0 (count j + 1)) whole)
    where
      whole : w ≡ number 4 m a
      whole = sym (mod-eq_of_lt {n = w} {m = 2 ^ 32} f) ∙ load_held 4 m a w e (load_inside 4 m a w e f)

  pub note_past : (w : ℕ) → answer_of w ≡ load 4 m a → get_or j 0 0 < 200 → 2 ^ 32 ≤ w → j ≡ note a m j
  unfolding note
  note_past w e h f = simp (lt-ltb _ _ h, load_outside 4 m a w e f)

  pub note_full : 200 ≤ get_or j 0 0 → j ≡ note a m j
  unfolding note
  note_full h = simp (le-ltb _ _ h)

module _ (k : AccessKind) (p : ℕ) (m : Memory) (j : Journal) where
  pub entry_fresh : (b : Bool) (n : Memory) (i : Journal) → b ≡ fresh k p m → b ≡ true → i ≡ note p m j → n ≡ recorded k p m
      → journaled n i ≡ journaled (recorded k p m) (entry_note k p m j)
  unfolding entry_note
  entry_fresh b n i e t f g = rw (sym e ∙ t, g, f) refl

  pub entry_old : (b : Bool) → b ≡ fresh k p m → b ≡ false → journaled m j ≡ journaled (recorded k p m) (entry_note k p m j)
  unfolding entry_note recorded
  entry_old b e t = rw (sym e ∙ t) refl

-- an entry's word put back by a store
pub word_restored : (m : Memory) (e a w : ℕ) (m1 m2 m3 m4 : Memory) → a ≡ e / 2 ^ 32 → w ≡ e % 2 ^ 32
    → m1 ≡ set m a (w / 256 / 256 / 256 % 256) → m2 ≡ set m1 (a + 1) (w / 256 / 256 % 256) → m3 ≡ set m2 (a + 2) (w / 256 % 256)
    → m4 ≡ set m3 (a + 3) (w % 256) → m4 ≡ restored m e
unfolding restored
word_restored m e a w m1 m2 m3 m4 ea ew f1 f2 f3 f4 = rw (f4, f3, f2, f1, ea, ew) (rw add-zero)
