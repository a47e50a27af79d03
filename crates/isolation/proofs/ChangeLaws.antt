-- What recording and a user store leave as it was: the tables, the hidden pages, and that two memories agree.
-- Assumes nothing.
use Prim.Native.Nat.{ℕ, zero, suc, ◌+◌, ◌/◌, ◌%◌, ◌<◌, ◌≤◌}
use mathlib.Core.Path.{◌≡◌, sym, ap, ◌∙◌}
use mathlib.Core.Logic.{◌⊎◌, inl, inr, ⊎_elim}
use mathlib.Core.Bool.{Bool, true, false, cond}
use native.Mathlib.Omega.{arith}
use native.Mathlib.Decide.{ℕ_discrete, dec_lt}
use lib.ListN.{set, length}
use lib.Seq.{get_or-set_same, get_or-set_other, set_out}
use Rattle.memory.specs.Bytes.{Memory, byte_at, number, stored}
use Rattle.memory.proofs.ByteLaws.{length_stored, byte_other, number_same}
use Rattle.mmu.specs.declared.AccessKind.{AccessKind}
use Rattle.mmu.specs.declared.AccessKind.TheVariants.{Write}
use Rattle.mmu.specs.Walk.{marked, fresh, recorded}
use Rattle.mmu.proofs.MarkLaws.{Alike, length_recorded, byte_recorded, entry_alike}
use Rattle.isolation.specs.Sealed.{page, Leads, PageWord, TableWord, Sealed, Agree, HiddenKept}
use Rattle.isolation.proofs.TableLaws.{Like, alike_same, segment_aligned, page_aligned, table_aligned}

-- a store to the same place of two memories that have the same byte x leaves them the same byte there
set_byte : (m n : Memory) (i v x : ℕ) → length m ≡ length n → byte_at m x ≡ byte_at n x → byte_at (set m i v) x ≡ byte_at (set n i v) x
set_byte m n i v x l e = go (ℕ_discrete x i) (dec_lt i (length m))
  where
    go : Dec (x ≡ i) → Dec (i < length m) → byte_at (set m i v) x ≡ byte_at (set n i v) x
    go (no d) h = get_or-set_other m i x v 0 d ∙ e ∙ sym (get_or-set_other n i x v 0 d)
    go (yes p) (yes h) = rw p (get_or-set_same m i v 0 h ∙ sym (get_or-set_same n i v 0 (omega arith)))
    go (yes p) (no h) =
        ap (λ (l : Memory). byte_at l x) (set_out m i v (omega arith)) ∙ e ∙ ap (λ (l : Memory). byte_at l x) (sym (set_out n i v (omega arith)))

stored_byte : (k : ℕ) (m n : Memory) (i v x : ℕ) → length m ≡ length n → byte_at m x ≡ byte_at n x
    → byte_at (stored k m i v) x ≡ byte_at (stored k n i v) x
stored_byte zero m n i v x l e = e
stored_byte (suc k) m n i v x l e =
    set_byte (stored k m i (v / 256)) (stored k n i (v / 256)) (i + k) (v % 256) x
    (length_stored k m i (v / 256) ∙ l ∙ sym (length_stored k n i (v / 256)))
    (stored_byte k m n i (v / 256) x l e)

recorded_byte : (k : AccessKind) (m n : Memory) (p x : ℕ) → length m ≡ length n → byte_at m (p + 3) ≡ byte_at n (p + 3) → byte_at m x ≡ byte_at n x
    → byte_at (recorded k p m) x ≡ byte_at (recorded k p n) x
unfolding recorded fresh
recorded_byte k m n p x l f e = rw f (go (fresh k p n))
  where
    go : (b : Bool) → byte_at (cond b (set m (p + 3) (marked k (byte_at n (p + 3)))) m) x ≡ byte_at (cond b (set n (p + 3) (marked k (byte_at n (p + 3)))) n) x
    go true = set_byte m n (p + 3) (marked k (byte_at n (p + 3))) x l e
    go false = e

-- n bytes from pa that lie in one word, and so in one page
pub record Inside (pa n : ℕ) : Type 0 where
  pub word : (i : ℕ) → pa ≤ i → i < pa + n → i / 4 ≡ pa / 4
  pub page : (i : ℕ) → pa ≤ i → i < pa + n → i / 4096 ≡ pa / 4096

-- a byte is one of n from pa, or it is none
beside : (pa n x : ℕ) → ((pa ≤ x) × (x < pa + n)) ⊎ ((x < pa) ⊎ (pa + n ≤ x))
beside pa n x = go (dec_lt x pa) (dec_lt x (pa + n))
  where
    go : Dec (x < pa) → Dec (x < pa + n) → ((pa ≤ x) × (x < pa + n)) ⊎ ((x < pa) ⊎ (pa + n ≤ x))
    go (yes h) d = inr (inl h)
    go (no h) (yes g) = inl (omega arith)
    go (no h) (no g) = inr (inr (omega arith))

module _ (H : ℕ → Type 0) (stb : ℕ) where
  -- ---- the tables stay

  pub recorded_like : (k : AccessKind) (m : Memory) (p : ℕ) → Sealed H stb m → PageWord stb m p → Like stb m (recorded k p m)
  recorded_like k m p s t =
      record {
        len = length_recorded k p m;
        segments = λ w u. number_same 4 (recorded k p m) m w λ x g h.
            byte_recorded k p m x λ e. s.apart w u (rw (meet w x (segment_aligned stb m w u) g h e) t);
        pages = λ w u. on_page w u (ℕ_discrete w p);
      }
    where
      even : p % 4 ≡ 0
      even = page_aligned stb m p t

      meet : (w x : ℕ) → w % 4 ≡ 0 → w ≤ x → x < w + 4 → x ≡ p + 3 → w ≡ p
      meet w x a g h e = omega (arith, even)

      on_page : (w : ℕ) → PageWord stb m w → Dec (w ≡ p) → Alike (number 4 (recorded k p m) w) (number 4 m w)
      on_page w u (yes e) = rw e (entry_alike k p m)
      on_page w u (no d) =
          alike_same _ _ (number_same 4 (recorded k p m) m w λ x g h.
          byte_recorded k p m x λ e. d (meet w x (page_aligned stb m w u) g h e))

  pub stored_like : (n : ℕ) (m : Memory) (pa v : ℕ) → Sealed H stb m → Leads stb m Write pa → Inside pa n → Like stb m (stored n m pa v)
  stored_like n m pa v s l i =
      record {
        len = length_stored n m pa v;
        segments = λ w u. same w (inl u);
        pages = λ w u. alike_same _ _ (same w (inr u));
      }
    where
      same : (w : ℕ) → TableWord stb m w → number 4 (stored n m pa v) w ≡ number 4 m w
      same w t = number_same 4 (stored n m pa v) m w (λ x g h. ⊎_elim (λ b. absurd (met x g h b)) (λ o. byte_other n m pa v x o) (beside pa n x))
        where
          even : w % 4 ≡ 0
          even = table_aligned stb m w t

          met : (x : ℕ) → w ≤ x → x < w + 4 → (pa ≤ x) × (x < pa + n) → ⊥
          met x g h b =
              let e = i.word x b.0 b.1 in
              s.unwritten w t (record { pa = pa; led = l; first = omega (arith, even); last = omega (arith, even) })

  -- two memories that agree have the same tables
  pub agree_like : (a b : Memory) → Agree H a b → Sealed H stb a → Like stb a b
  agree_like a b g s =
      record {
        len = sym g.len;
        segments = λ w u. same w (inl u);
        pages = λ w u. alike_same _ _ (same w (inr u));
      }
    where
      same : (w : ℕ) → TableWord stb a w → number 4 b w ≡ number 4 a w
      same w t =
          let e = table_aligned stb a w t in
          number_same 4 b a w λ x l h. sym (g.same x λ y.
          s.unhidden w t (let p : page x ≡ page w = omega arith in rw p at y))

  -- ---- two memories agree as before

  pub recorded_agree : (k : AccessKind) (a b : Memory) (p : ℕ) → (H (page (p + 3)) → ⊥) → Agree H a b → Agree H (recorded k p a) (recorded k p b)
  recorded_agree k a b p n g =
      record {
        len = length_recorded k p a ∙ g.len ∙ sym (length_recorded k p b);
        same = λ x d. recorded_byte k a b p x g.len (g.same (p + 3) n) (g.same x d);
      }

  pub stored_agree : (n : ℕ) (a b : Memory) (pa v : ℕ) → Agree H a b → Agree H (stored n a pa v) (stored n b pa v)
  stored_agree n a b pa v g =
      record {
        len = length_stored n a pa v ∙ g.len ∙ sym (length_stored n b pa v);
        same = λ x d. stored_byte n a b pa v x g.len (g.same x d);
      }

  -- ---- the hidden pages keep their bytes

  pub recorded_kept : (k : AccessKind) (m : Memory) (p : ℕ) → (H (page (p + 3)) → ⊥) → HiddenKept H m (recorded k p m)
  recorded_kept k m p n =
      record { len = length_recorded k p m; same = λ x h. byte_recorded k p m x (λ e. n (rw e at h)) }

  pub stored_kept : (n : ℕ) (m : Memory) (pa v : ℕ) → ((x : ℕ) → pa ≤ x → x < pa + n → H (page x) → ⊥) → HiddenKept H m (stored n m pa v)
  stored_kept n m pa v h =
      record {
        len = length_stored n m pa v;
        same = λ x y. ⊎_elim (λ b. absurd (h x b.0 b.1 y)) (λ o. byte_other n m pa v x o) (beside pa n x);
      }

  pub kept_trans : (a b c : Memory) → HiddenKept H a b → HiddenKept H b c → HiddenKept H a c
  kept_trans a b c f g = record { len = g.len ∙ f.len; same = λ x h. g.same x h ∙ f.same x h }
