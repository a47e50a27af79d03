-- The first line of a text, and the search for its end.
-- Assumes nothing.
use mathlib.Core.Path.{◌≡◌, refl, sym, ap, ◌∙◌}
use mathlib.Core.Bool.{Bool, true, not, ◌&&◌}
use mathlib.Core.List.{List, [], ◌∷◌}
use Prim.Native.Nat.{ℕ, zero, suc, ◌+◌, ◌-◌, ◌≤◌, ◌<◌}
use native.Mathlib.Numerals.{add-one}
use native.Mathlib.Omega.{arith}
use lib.ListN.{length, get_or, take, drop, length-drop, drop_of_length-le}
use lib.Seq.{drop-cons, drop-drop, get_or-drop, length-take-le}
use lib.Dec.{eqb, leb}
use borrow.Author.Tests.{eq-eqb, eqb-true, ne_eqb, le-leb, lt-leb, leb-true, leb-false}
use Rattle.word.proofs.CaseLaws.{by_test}
use Rattle.std.specs.Prelude.{Option, Some, None, unwrap_or}
use Rattle.memchr.specs.Find.{IsFirstByte, is_byte}
use Rattle.lines.specs.Texts.{newline_at, onto_ended, ended_lines}

-- ---- the search

-- no newline stands below place k
passed : (t : List ℕ) (k : ℕ) → k ≤ length t → ((j : ℕ) → j < k → get_or t j 0 ≡ 10 → ⊥) → newline_at t ≡ k + newline_at (drop k t)
unfolding newline_at
passed t zero h f = omega arith
passed [] (suc k) h f = absurd (omega arith)
passed (b ∷ t) (suc k) h f =
    let n : (b ≡ 10 → ⊥) = f 0 (omega arith) in
    let e = passed t k (omega arith) (λ j l. f (suc j) (omega arith)) in
    rw (ne_eqb b 10 n) (omega (arith, e))

found : (t : List ℕ) (k : ℕ) → k < length t → get_or t k 0 ≡ 10 → newline_at (drop k t) ≡ 0
unfolding newline_at
found t k h e = rw (drop-cons t k 0 h, eq-eqb (get_or t k 0) 10 e) refl

past_one : (t : List ℕ) (k : ℕ) → k < length t → (get_or t k 0 ≡ 10 → ⊥) → newline_at (drop k t) ≡ suc (newline_at (drop (suc k) t))
unfolding newline_at
past_one t k h e = rw (drop-cons t k 0 h, ne_eqb (get_or t k 0) 10 e) refl

past : (t : List ℕ) (k : ℕ) → length t ≤ k → newline_at (drop k t) ≡ 0
unfolding newline_at
past t k h = rw (drop_of_length-le t h) refl

pub first_newline : (t : List ℕ) (r : Option ℕ) → IsFirstByte (is_byte 10) t r → unwrap_or r (length t) ≡ newline_at t
first_newline t None f =
    let e = passed t (length t) (omega arith) (λ j l g. f j (omega arith) l (eq-eqb _ _ g)) in
    omega (arith, e, past t (length t) (omega arith))
first_newline t (Some k) f =
    let h : k < length t = f.0.high in
    let e = passed t k (omega (arith, h)) (λ j l g. f.0.before j (omega arith) l (eq-eqb _ _ g)) in
    omega (arith, e, found t k h (eqb-true _ _ f.1))

pub none_after : (t : List ℕ) (from : ℕ) → length t ≤ from → from ≡ from + newline_at (drop from t)
none_after t from h = omega (arith, past t from h)

-- ---- bytes at once, and one by one

leb_suc : (a b : ℕ) → leb (suc a) (suc b) ≡ leb a b
leb_suc a b =
    by_test (leb a b)
    (λ e. le-leb (suc a) (suc b) (omega (arith, leb-true a b e)) ∙ sym e)
    (λ e. lt-leb (suc a) (suc b) (omega (arith, leb-false a b e)) ∙ sym e)

-- the first newline lies k bytes on or more, by one byte after another
far_next : (t : List ℕ) (k : ℕ) → k < length t → (leb k (newline_at t) && not (eqb (get_or t k 0) 10)) ≡ leb (suc k) (newline_at t)
unfolding newline_at
far_next [] k h = absurd (omega arith)
far_next (b ∷ t) zero h =
    by_test (eqb b 10)
    (λ e. rw e refl)
    (λ e. rw (e, le-leb 0 (suc (newline_at t)) (omega arith), le-leb 1 (suc (newline_at t)) (omega arith)) refl)
far_next (b ∷ t) (suc k) h =
    by_test (eqb b 10)
    (λ e. rw (e, lt-leb (suc k) 0 (omega arith), lt-leb (suc (suc k)) 0 (omega arith)) refl)
    (λ e. rw (e, leb_suc k (newline_at t), leb_suc (suc k) (newline_at t)) (far_next t k (omega arith)))

module _ (t : List ℕ) (i : ℕ) where
  pub first_plain : i < length t → not (eqb (get_or t i 0) 10) ≡ leb 1 (newline_at (drop i t))
  unfolding newline_at
  first_plain h =
      rw (drop-cons t i 0 h)
      (by_test (eqb (get_or t i 0) 10)
      (λ e. rw (e, lt-leb 1 0 (omega arith)) refl)
      (λ e. rw (e, le-leb 1 (suc (newline_at (drop (suc i) t))) (omega arith)) refl))

  pub next_plain : (k : ℕ) (x : Bool) → i + k < length t → x ≡ leb k (newline_at (drop i t))
      → (x && not (eqb (get_or t (i + k) 0) 10)) ≡ leb (suc k) (newline_at (drop i t))
  next_plain k x h e =
      let inside : k < length (drop i t) = rw (length-drop i t) (omega arith) in
      let byte : get_or t (i + k) 0 ≡ get_or (drop i t) k 0 = sym (get_or-drop i t k 0) in
      (λ j. e j && not (eqb (byte j) 10)) ∙ far_next (drop i t) k inside

-- bytes that are no newline are passed at once
beyond : (t : List ℕ) (k : ℕ) → k ≤ newline_at t → newline_at t ≡ k + newline_at (drop k t)
unfolding newline_at
beyond t zero h = omega arith
beyond [] (suc k) h = absurd (omega arith)
beyond (b ∷ t) (suc k) h =
    by_test (eqb b 10)
    (λ e. absurd (omega (arith, rw e at h)))
    (λ e. let g : k ≤ newline_at t = omega (arith, rw e at h) in
    rw e (omega (arith, beyond t k g)))

-- nothing but other bytes from `from` up to i
pub record Seeking (t : List ℕ) (from i : ℕ) : Type 0 where
  pub upto : i ≤ length t
  pub sums : i + newline_at (drop i t) ≡ from + newline_at (drop from t)

module _ (t : List ℕ) (from : ℕ) where
  pub seeking_eight : (i : ℕ) (x : Bool) → Seeking t from i → i + 8 ≤ length t → x ≡ leb 8 (newline_at (drop i t)) → x ≡ true
      → Seeking t from (i + 8)
  seeking_eight i x r h e g =
      let far : newline_at (drop i t) ≡ 8 + newline_at (drop (i + 8) t) =
      beyond (drop i t) 8 (leb-true 8 (newline_at (drop i t)) (sym e ∙ g)) ∙ ap (λ (l : List ℕ). 8 + newline_at l) (drop-drop 8 i t) in
      record { upto = h; sums = omega (arith, r.sums, far) }

  pub seeking_found : (i : ℕ) → Seeking t from i → i < length t → get_or t i 0 ≡ 10 → i ≡ from + newline_at (drop from t)
  seeking_found i r h e = omega (arith, r.sums, found t i h e)

  pub seeking_more : (i : ℕ) → Seeking t from i → i < length t → (get_or t i 0 ≡ 10 → ⊥) → Seeking t from (i + 1)
  seeking_more i r h e = record { upto = omega arith; sums = rw add-one (omega (arith, r.sums, past_one t i h e)) }

  pub seeking_end : (i : ℕ) → Seeking t from i → length t ≤ i → i ≡ from + newline_at (drop from t)
  seeking_end i r h = omega (arith, r.sums, past t i h)

-- ---- the first line

pub ended_first : (t : List ℕ) → newline_at t < length t
    → ended_lines t ≡ take (newline_at t) t ∷ ended_lines (drop (suc (newline_at t)) t)
unfolding newline_at ended_lines
ended_first [] h = absurd (omega arith)
ended_first (b ∷ t) h =
    by_test (eqb b 10)
    (λ e. rw e refl)
    (λ e. let g : newline_at t < length t = omega (arith, rw e at h) in
    rw e (ap (onto_ended b) (ended_first t g)))

pub ended_none : (t : List ℕ) → length t ≤ newline_at t → ended_lines t ≡ []
unfolding newline_at ended_lines
ended_none [] h = refl
ended_none (b ∷ t) h =
    by_test (eqb b 10)
    (λ e. absurd (omega (arith, rw e at h)))
    (λ e. let g : length t ≤ newline_at t = omega (arith, rw e at h) in
    rw e (ap (onto_ended b) (ended_none t g)))

-- ---- the line from a place on, where the search found its end

module _ (t : List ℕ) (from to : ℕ) (e : to ≡ from + newline_at (drop from t)) where
  pub none_from : length t ≤ to → length (drop from t) ≤ newline_at (drop from t)
  none_from h = rw (length-drop from t) (omega arith)

  module _ (h : to < length t) where
    pub ends_from : newline_at (drop from t) < length (drop from t)
    ends_from = rw (length-drop from t) (omega arith)

    pub first_from : ended_lines (drop from t) ≡ take (to - from) (drop from t) ∷ ended_lines (drop (to + 1) t)
    first_from =
        let n = newline_at (drop from t) in
        let a : n ≡ to - from = omega arith in
        let b : from + suc n ≡ to + 1 = omega arith in
        ended_first (drop from t) ends_from
        ∙ (λ i. take (a i) (drop from t) ∷ ended_lines ((drop-drop (suc n) from t ∙ ap (λ (k : ℕ). drop k t) b) i))

    pub width_from : length (take (to - from) (drop from t)) ≡ to - from
    width_from = length-take-le (to - from) (drop from t) (omega (arith, ends_from))
