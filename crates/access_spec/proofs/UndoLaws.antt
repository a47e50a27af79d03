-- The journal puts memory back exactly, whatever program was interpreted, if it asks for no more than the journal has room for.
-- Assumes nothing.
use Prim.Native.Nat.{ℕ, zero, suc, ◌+◌, ◌/◌, ◌%◌, ◌^◌, ◌<◌, ◌≤◌, min}
use native.Mathlib.Nat.{min-eq_left, le_of_lt}
use mathlib.Core.Path.{◌≡◌, refl, sym, ap, ◌∙◌}
use mathlib.Core.Bool.{true}
use mathlib.Core.Logic.{inl, inr}
use native.Mathlib.Omega.{arith}
use native.Mathlib.Decide.{ℕ_discrete, dec_lt}
use lib.ListN.{get_or, set, length, length-set}
use lib.Seq.{get_or-set_same, get_or-set_other, ext_get_or}
use borrow.Author.Tests.{lt-ltb, leb-true}
use Rattle.memory.specs.Bytes.{Memory, byte_at, number, stored, holds}
use Rattle.memory.proofs.ByteLaws.{length_stored, byte_other}
use Rattle.access_spec.specs.Journal.{Journal, room, count, entry, note, restored, undone, undo}
use Rattle.access_spec.proofs.ByteLaws.{Bytes, number_lt}

-- a memory n that differs from m only in the four bytes at a
pub record Near (m : Memory) (a : ℕ) (n : Memory) : Type 0 where
  pub length : length n ≡ length m
  pub other : (x : ℕ) → (a ≤ x → x < a + 4 → ⊥) → byte_at n x ≡ byte_at m x

-- bytes stored as their number are those bytes again
stored_back : (n : ℕ) (l m : Memory) (a : ℕ) → Bytes m → a + n ≤ length l → (x : ℕ) → a ≤ x → x < a + n
    → byte_at (stored n l a (number n m a)) x ≡ byte_at m x
stored_back zero l m a b h x from below = absurd (omega arith)
stored_back (suc n) l m a b h x from below = rw (high, low) (at (ℕ_discrete x (a + n)) (λ k. stored_back n l m a b (omega arith) x from k))
  where
    high : number (suc n) m a / 256 ≡ number n m a
    high = omega (arith, b (a + n))

    low : number (suc n) m a % 256 ≡ byte_at m (a + n)
    low = omega (arith, b (a + n))

    at : Dec (x ≡ a + n) → (x < a + n → byte_at (stored n l a (number n m a)) x ≡ byte_at m x)
        → get_or (set (stored n l a (number n m a)) (a + n) (byte_at m (a + n))) x 0 ≡ byte_at m x
    at (yes e) f = rw e (get_or-set_same (stored n l a (number n m a)) (a + n) (byte_at m (a + n)) 0 (simp length_stored (omega arith)))
    at (no d) f = get_or-set_other (stored n l a (number n m a)) (a + n) x (byte_at m (a + n)) 0 d ∙ f (omega arith)

entry_place : (a w : ℕ) → w < 2 ^ 32 → entry a w / 2 ^ 32 ≡ a
entry_place a w h = omega arith

entry_word : (a w : ℕ) → w < 2 ^ 32 → entry a w % 2 ^ 32 ≡ w
entry_word a w h = omega arith

restored_entry : (n : Memory) (a w : ℕ) → w < 2 ^ 32 → restored n (entry a w) ≡ stored 4 n a w
unfolding restored
restored_entry n a w h = rw (entry_place a w h, entry_word a w h) refl

-- a change in the four bytes of an entry is put back
module _ (m : Memory) (a : ℕ) (n : Memory) (b : Bytes m) (f : holds m a 4 ≡ true) (r : Near m a n) where
  fits : a + 4 ≤ length n
  fits = rw r.length (leb-true (a + 4) (length m) f)

  same_byte : (x : ℕ) → Dec (x < a) → Dec (x < a + 4) → byte_at (stored 4 n a (number 4 m a)) x ≡ byte_at m x
  same_byte x (yes l) e = byte_other 4 n a (number 4 m a) x (inl l) ∙ r.other x (λ g h. omega arith)
  same_byte x (no l) (yes k) = stored_back 4 n m a b fits x (omega arith) k
  same_byte x (no l) (no k) = byte_other 4 n a (number 4 m a) x (inr (omega arith)) ∙ r.other x (λ g h. omega arith)

  restored_near : restored n (entry a (number 4 m a)) ≡ m
  restored_near =
      restored_entry n a (number 4 m a) (number_lt 4 m a b)
      ∙ ext_get_or 0 (stored 4 n a (number 4 m a)) m (length_stored 4 n a (number 4 m a) ∙ r.length) (λ x h. same_byte x (dec_lt x a) (dec_lt x (a + 4)))

-- a journal of its size
abbrev pub Sized : Journal → Type 0
Sized j = length j ≡ 201

-- the entries before the n-th decide what putting n of them back gives
undone_same : (n : ℕ) (i j : Journal) (m : Memory) → ((x : ℕ) → x < n → get_or i (suc x) 0 ≡ get_or j (suc x) 0) → undone n i m ≡ undone n j m
unfolding undone
undone_same zero i j m h = refl
undone_same (suc n) i j m h = rw (h n (omega arith)) (undone_same n i j _ (λ x l. h x (omega arith)))

undone_step : (k : ℕ) (i : Journal) (n : Memory) (e : ℕ) → get_or i (suc k) 0 ≡ e → undone (suc k) i n ≡ undone k i (restored n e)
unfolding undone
undone_step k i n e p = rw (← p) refl

-- a note that has room
module _ (a : ℕ) (m : Memory) (j : Journal) (s : Sized j) (h : count j < room) (f : holds m a 4 ≡ true) where
  abbrev entered : Journal
  entered = set (set j (count j + 1) (entry a (number 4 m a))) 0 (count j + 1)

  note_is : note a m j ≡ entered
  unfolding note
  note_is = rw (lt-ltb _ _ h, f) refl

  pub note_count : count (note a m j) ≡ count j + 1
  note_count = ap count note_is ∙ get_or-set_same (set j (count j + 1) (entry a (number 4 m a))) 0 (count j + 1) 0 (simp length-set (omega (arith, s)))

  pub note_sized : Sized (note a m j)
  note_sized = rw note_is (simp length-set s)

  -- a change in the four bytes noted is put back
  pub note_undo : Bytes m → (n : Memory) → Near m a n → undo (note a m j) n ≡ undo j m
  unfolding undo
  note_undo b n r =
      ap (λ (x : ℕ). undone x (note a m j) n) (ap (λ (x : ℕ). min x room) (note_count ∙ up) ∙ min-eq_left h)
      ∙ ap (λ (i : Journal). undone (suc k) i n) note_is
      ∙ undone_step k entered n e last
      ∙ ap (λ (z : Memory). undone k entered z) (restored_near m a n b f r)
      ∙ undone_same k entered j m before
      ∙ ap (λ (x : ℕ). undone x j m) (sym (min-eq_left (le_of_lt h)))
    where
      k : ℕ
      k = count j

      e : ℕ
      e = entry a (number 4 m a)

      up : k + 1 ≡ suc k
      up = omega arith

      last : get_or (set (set j (k + 1) e) 0 (k + 1)) (suc k) 0 ≡ e
      last =
          get_or-set_other (set j (k + 1) e) 0 (suc k) (k + 1) 0 (omega arith)
          ∙ ap (λ (x : ℕ). get_or (set j (k + 1) e) x 0) (sym up) ∙ get_or-set_same j (k + 1) e 0 (omega (arith, s, h))

      before : (x : ℕ) → x < k → get_or entered (suc x) 0 ≡ get_or j (suc x) 0
      before x l = get_or-set_other (set j (k + 1) e) 0 (suc x) (k + 1) 0 (omega arith) ∙ get_or-set_other j (k + 1) (suc x) e 0 (omega arith)
