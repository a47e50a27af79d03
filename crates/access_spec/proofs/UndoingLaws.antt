-- Every access, and so every program of few enough of them, can be undone from its journal.
-- Assumes nothing.
use Prim.Native.Nat.{ℕ, zero, suc, ◌+◌, ◌*◌, ◌/◌, ◌%◌, ◌<◌, ◌≤◌}
use mathlib.Core.Path.{◌≡◌, refl, ap, ◌∙◌}
use mathlib.Core.Bool.{Bool, true, false, cond}
use mathlib.Core.Logic.{◌⊎◌, inl, inr}
use native.Mathlib.Omega.{arith}
use native.Mathlib.Decide.{dec_lt}
use lib.ListN.{set, length, length-set}
use lib.Seq.{get_or-set_other}
use borrow.Author.Tests.{leb-true, le-leb, eqb-true}
use Rattle.word.specs.declared.Width.{Width}
use Rattle.word.specs.declared.Width.TheVariants.{Byte, Half, Word}
use Rattle.word.specs.Widths.{bytes_of}
use Rattle.memory.specs.Answers.{raised}
use Rattle.memory.specs.Bytes.{Memory, byte_at, holds, stored, store_memory}
use Rattle.memory.proofs.ByteLaws.{length_stored, byte_other}
use Rattle.mmu.specs.declared.AccessKind.{AccessKind}
use Rattle.mmu.specs.declared.AccessKind.TheVariants.{Fetch, Read, Write}
use Rattle.mmu.specs.declared.Walk.{Walk}
use Rattle.mmu.specs.declared.Walk.TheVariants.{Fault, Direct, Paged}
use Rattle.mmu.specs.Walk.{route, marked, fresh, recorded}
use Rattle.memory.specs.Exceptions.{alignment_fault}
use Rattle.access_spec.specs.Access.{Access, fetch, read, write, probe, regime_of, access_kind_of, address_of, aligned, response, touch, noted, follow, access}
use Rattle.access_spec.specs.Program.{Program, ret, ask, interpret, plain}
use Rattle.access_spec.specs.Journal.{room, count, note, undo, touch_note, entry_note, walk_note, follow_note, access_note, Journaled, logging}
use Rattle.access_spec.proofs.BoundedLaws.{Bounded}
use Rattle.access_spec.proofs.ByteLaws.{Bytes, stored_bytes, marked_bytes}
use Rattle.access_spec.proofs.RouteLaws.{Ends, route_ends}
use Rattle.access_spec.proofs.UndoLaws.{Near, Sized, note_count, note_sized, note_undo}

-- the journal's memory is the plain handler's, and so are the answers
pub interpret_memory : {A : Type 0} (p : Program A) (t : Journaled)
    → ((interpret logging p t).out ≡ (interpret plain p t.memory).out) × ((interpret logging p t).world.memory ≡ (interpret plain p t.memory).world)
unfolding interpret logging
interpret_memory (ret a) t = (refl, refl)
interpret_memory (ask q k) t =
    interpret_memory (k (access q t.memory).out) (record { memory = (access q t.memory).world; log = access_note q t.memory t.log })

-- from t to u at most n entries more, which put back what was
pub record Undoing (t u : Journaled) (n : ℕ) : Type 0 where
  pub length : length u.memory ≡ length t.memory
  pub bytes : Bytes u.memory
  pub sized : Sized u.log
  pub most : count u.log ≤ count t.log + n
  pub undoes : undo u.log u.memory ≡ undo t.log t.memory

still : (t : Journaled) (n : ℕ) → Bytes t.memory → Sized t.log → Undoing t t n
still t n b s = record { length = refl; bytes = b; sized = s; most = omega arith; undoes = refl }

chain : (t u v : Journaled) (a b : ℕ) → Undoing t u a → Undoing u v b → Undoing t v (a + b)
chain t u v a b x y =
    record { length = y.length ∙ x.length; bytes = y.bytes; sized = y.sized; most = omega (arith, x.most, y.most); undoes = y.undoes ∙ x.undoes }

one_note : (t : Journaled) (a : ℕ) (n : Memory) → Bytes t.memory → Bytes n → Sized t.log → count t.log < room → holds t.memory a 4 ≡ true → Near t.memory a n
    → Undoing t (record { memory = n; log = note a t.memory t.log }) 1
one_note t a n b c s h f r =
    record {
      length = r.length;
      bytes = c;
      sized = note_sized a t.memory t.log s h f;
      most = omega (arith, note_count a t.memory t.log s h f);
      undoes = note_undo a t.memory t.log s h f b n r;
    }

-- ---- a store stays in its word

inside : (w : Width) (a pa : ℕ) → a % bytes_of w ≡ 0 → pa % 4 ≡ a % 4 → pa % 4 + bytes_of w ≤ 4
inside Byte a pa e f = omega arith
inside Half a pa e f = omega arith
inside Word a pa e f = omega arith

some : (w : Width) → 0 < bytes_of w
some Byte = omega arith
some Half = omega arith
some Word = omega arith

store_near : (n : ℕ) (m : Memory) (pa v : ℕ) → pa % 4 + n ≤ 4 → Near m (pa / 4 * 4) (stored n m pa v)
store_near n m pa v h =
    record {
      length = length_stored n m pa v;
      other = λ x d. byte_other n m pa v x (apart x d (dec_lt x pa));
    }
  where
    apart : (x : ℕ) → (pa / 4 * 4 ≤ x → x < pa / 4 * 4 + 4 → ⊥) → Dec (x < pa) → (x < pa) ⊎ (pa + n ≤ x)
    apart x d (yes l) = inl l
    apart x d (no l) = inr (beyond (dec_lt x (pa / 4 * 4 + 4)))
      where
        beyond : Dec (x < pa / 4 * 4 + 4) → pa + n ≤ x
        beyond (yes k) = absurd (d (omega arith) k)
        beyond (no k) = omega arith

word_held : (n : ℕ) (m : Memory) (pa : ℕ) → length m % 4 ≡ 0 → 0 < n → holds m pa n ≡ true → holds m (pa / 4 * 4) 4 ≡ true
word_held n m pa e p h = le-leb (pa / 4 * 4 + 4) (length m) (omega (arith, leb-true (pa + n) (length m) h))

entry_near : (m : Memory) (p v : ℕ) → Near m p (set m (p + 3) v)
entry_near m p v =
    record { length = length-set m (p + 3) v; other = λ x d. get_or-set_other m (p + 3) x v 0 (λ e. d (omega arith) (omega arith)) }

-- ---- the parts of an access

module _ (t : Journaled) (bytes : Bytes t.memory) (s : Sized t.log) (l : length t.memory % 4 ≡ 0) where
  touch_undoing : (q : Access) (pa : ℕ) → count t.log < room → aligned q ≡ true → pa % 4 ≡ address_of q % 4
      → Undoing t (record { memory = (touch q pa t.memory).world; log = touch_note q pa t.memory t.log }) 1
  unfolding touch touch_note store_memory
  touch_undoing (fetch r a) pa h b e = still t 1 bytes s
  touch_undoing (read r w a) pa h b e = still t 1 bytes s
  touch_undoing (probe r a) pa h b e = still t 1 bytes s
  touch_undoing (write r w a v) pa h b e = go (holds t.memory pa (bytes_of w)) refl
    where
      go : (c : Bool) → holds t.memory pa (bytes_of w) ≡ c
          → Undoing t (record { memory = cond c (stored (bytes_of w) t.memory pa v) t.memory; log = cond c (note (pa / 4 * 4) t.memory t.log) t.log }) 1
      go true f =
          one_note t (pa / 4 * 4) _ bytes (stored_bytes (bytes_of w) t.memory pa v bytes) s h (word_held (bytes_of w) t.memory pa l (some w) f)
          (store_near (bytes_of w) t.memory pa v (inside w (address_of (write r w a v)) pa (eqb-true _ _ b) e))
      go false f = still t 1 bytes s

  entry_undoing : (k : AccessKind) (p : ℕ) → count t.log < room → holds t.memory p 4 ≡ true
      → Undoing t (record { memory = recorded k p t.memory; log = entry_note k p t.memory t.log }) 1
  unfolding recorded entry_note
  entry_undoing k p h f = go (fresh k p t.memory)
    where
      go : (c : Bool) → Undoing t (record { memory = cond c (set t.memory (p + 3) (marked k (byte_at t.memory (p + 3)))) t.memory; log = cond c (note p t.memory t.log) t.log }) 1
      go true = one_note t p _ bytes (marked_bytes k p t.memory bytes) s h f (entry_near t.memory p _)
      go false = still t 1 bytes s

  walk_undoing : (q : Access) (p : ℕ) → count t.log < room → holds t.memory p 4 ≡ true
      → Undoing t (record { memory = noted q p t.memory; log = walk_note q p t.memory t.log }) 1
  unfolding walk_note
  walk_undoing (fetch r a) p h f = entry_undoing Fetch p h f
  walk_undoing (read r w a) p h f = entry_undoing Read p h f
  walk_undoing (write r w a v) p h f = entry_undoing Write p h f
  walk_undoing (probe r a) p h f = still t 1 bytes s

module _ (q : Access) (t : Journaled) (bytes : Bytes t.memory) (s : Sized t.log) (l : length t.memory % 4 ≡ 0) (h : count t.log + 2 ≤ room) where
  follow_undoing : (w : Walk) → aligned q ≡ true → Ends t.memory (address_of q) w
      → Undoing t (record { memory = (follow q t.memory w).world; log = follow_note q t.memory w t.log }) 2
  unfolding follow follow_note
  follow_undoing (Fault c) b e = still t 2 bytes s
  follow_undoing (Direct pa) b e =
      let u = touch_undoing t bytes s l q pa (omega arith) b e in
      record { length = u.length; bytes = u.bytes; sized = u.sized; most = omega (arith, u.most); undoes = u.undoes }
  follow_undoing (Paged p pa) b e =
      let u = walk_undoing t bytes s l q p (omega arith) e.1 in
      let v : Journaled = record { memory = noted q p t.memory; log = walk_note q p t.memory t.log } in
      chain t v _ 1 1 u (touch_undoing v u.bytes u.sized (ap (λ (n : ℕ). n % 4) u.length ∙ l) q pa (omega (arith, u.most)) b e.0)

  pub access_undoing : Undoing t (logging q t).world 2
  unfolding logging access access_note
  access_undoing = go (aligned q) refl
    where
      w : Walk
      w = route (regime_of q) (access_kind_of q) (address_of q) t.memory

      go : (b : Bool) → aligned q ≡ b
          → Undoing t (record { memory = (cond b (follow q t.memory w) (response (raised alignment_fault) t.memory)).world; log = cond b (follow_note q t.memory w t.log) t.log }) 2
      go true e = follow_undoing w e (route_ends (regime_of q) (access_kind_of q) (address_of q) t.memory)
      go false e = still t 2 bytes s

-- a program of at most n accesses
pub interpret_undoing : {A : Type 0} (Q : Access → Type 0) (P : A → Type 0) (n : ℕ) (p : Program A) (t : Journaled) → Bounded Q P n p
    → Bytes t.memory → Sized t.log → length t.memory % 4 ≡ 0 → count t.log + 2 * n ≤ room → Undoing t (interpret logging p t).world (2 * n)
unfolding interpret
interpret_undoing Q P n (ret a) t b y s l h = still t (2 * n) y s
interpret_undoing Q P zero (ask q k) t b y s l h = absurd b
interpret_undoing Q P (suc n) (ask q k) t b y s l h =
    let u = access_undoing q t y s l (omega arith) in
    let v = interpret_undoing Q P n (k (logging q t).out) (logging q t).world (b.1 (logging q t).out tt) u.bytes u.sized
    (ap (λ (x : ℕ). x % 4) u.length ∙ l) (omega (arith, u.most)) in
    record { length = v.length ∙ u.length; bytes = v.bytes; sized = v.sized; most = omega (arith, u.most, v.most); undoes = v.undoes ∙ u.undoes }
