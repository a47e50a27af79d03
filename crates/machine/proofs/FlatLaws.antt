-- The quad-words of a flat array and the flat array of quad-words: the loops that make them, and that each undoes the other.
-- Assumes nothing.
use mathlib.Core.Path.{◌≡◌, refl, sym, ap, ◌∙◌, subst}
use mathlib.Core.List.{List, [], ◌∷◌, ◌++◌, append_assoc}
use Prim.Native.Nat.{ℕ, zero, suc, ◌+◌, ◌*◌, ◌≤◌, ◌<◌}
use mathlib.Core.Logic.{⊎_elim}
use native.Mathlib.Nat.{le_refl, eq-or-lt_of_le, add-zero}
use native.Mathlib.Numerals.{add-one}
use native.Mathlib.Omega.{arith}
use lib.ListN.{length, get_or, set, take, length-set, length-append, get_or-append}
use lib.Seq.{take-suc, take-suc-set, take_all, get_or_at, get_or-append-add}
use Rattle.machine.specs.Cache.{Cache, quad_of, quads_to, quads_of, words_of, flat_to, flat_of}
use Rattle.machine.specs.Shapes.{CacheShape}
use Rattle.machine.proofs.WordLaws.{words_all}

-- a list of n elements that is filled from the front, so far by g
pub record Front {A : Type 0} (n j : ℕ) (g l : List A) : Type 0 where
  pub long : length l ≡ n
  pub upto : j ≤ n
  pub front : take j l ≡ g

module _ {A : Type 0} (n : ℕ) where
  pub front_none : (l : List A) → length l ≡ n → Front n 0 [] l
  front_none l h = record { long = h; upto = omega arith; front = refl }

  pub front_more : {j : ℕ} {g l : List A} (v : A) → Front n j g l → j < n → Front n (suc j) (g ++ (v ∷ [])) (set l j v)
  front_more {j} {g} {l} v r h =
      record {
        long = length-set l j v ∙ r.long;
        upto = omega arith;
        front = take-suc-set l j v (omega (arith, r.long)) ∙ ap (λ (k : List A). k ++ (v ∷ [])) r.front;
      }

  pub front_all : {j : ℕ} {g l : List A} → Front n j g l → n ≤ j → l ≡ g
  front_all {j} {g} {l} r h = sym (take_all j l (omega (arith, r.long))) ∙ r.front

module _ (f : List ℕ) where
  pub quads_more : (i : ℕ) (q : Cache) (v : List ℕ) → Front 16 i (quads_to i f) q → i < 16 → v ≡ quad_of f i
      → Front 16 (i + 1) (quads_to (i + 1) f) (set q i v)
  quads_more i q v r h e = rw (add-one, e) (front_more 16 (quad_of f i) r h)

  pub quads_all : (i : ℕ) (q : Cache) → Front 16 i (quads_to i f) q → 16 ≤ i → q ≡ quads_of f
  unfolding quads_of
  quads_all i q r h =
      let e : i ≡ 16 = omega (arith, r.upto) in
      front_all 16 r h ∙ ap (λ (k : ℕ). quads_to k f) e

module _ (q : Cache) where
  -- four stores a turn
  pub flat_more : (i : ℕ) (f : List ℕ) → Front 64 (i * 4) (flat_to i q) f → i < 16
      → Front 64 ((i + 1) * 4) (flat_to (i + 1) q)
      (set
      (set (set (set f (i * 4) (get_or (get_or q i []) 0 0)) (i * 4 + 1) (get_or (get_or q i []) 1 0)) (i * 4 + 2) (get_or (get_or q i []) 2 0))
      (i * 4 + 3)
      (get_or (get_or q i []) 3 0))
  flat_more i f r h =
      let w = get_or q i [] in
      let r1 = front_more 64 (get_or w 0 0) r (omega arith) in
      let r2 = front_more 64 (get_or w 1 0) r1 (omega arith) in
      let r3 = front_more 64 (get_or w 2 0) r2 (omega arith) in
      let r4 = front_more 64 (get_or w 3 0) r3 (omega arith) in
      let e : (i + 1) * 4 ≡ suc (suc (suc (suc (i * 4)))) = omega arith in
      let e1 : i * 4 + 1 ≡ suc (i * 4) = omega arith in
      let e2 : i * 4 + 2 ≡ suc (suc (i * 4)) = omega arith in
      let e3 : i * 4 + 3 ≡ suc (suc (suc (i * 4))) = omega arith in
      rw (e, e1, e2, e3, add-one) (simp append_assoc at r4)

  pub flat_all : (i : ℕ) (f : List ℕ) → Front 64 (i * 4) (flat_to i q) f → 16 ≤ i → f ≡ flat_of q
  unfolding flat_of
  flat_all i f r h =
      let e : i ≡ 16 = omega (arith, r.upto) in
      front_all 64 r (omega arith) ∙ ap (λ (k : ℕ). flat_to k q) e

length_quads : (n : ℕ) (f : List ℕ) → length (quads_to n f) ≡ n
length_quads zero f = refl
length_quads (suc n) f = length-append (quads_to n f) (quad_of f n ∷ []) ∙ omega (arith, length_quads n f)

length_flat : (n : ℕ) (q : Cache) → length (flat_to n q) ≡ n * 4
length_flat zero q = refl
length_flat (suc n) q = length-append (flat_to n q) (words_of (get_or q n [])) ∙ omega (arith, length_flat n q)

-- quad-word k, once it is there
quad_at : (n k : ℕ) (f : List ℕ) → k < n → get_or (quads_to n f) k [] ≡ quad_of f k
quad_at zero k f h = absurd (omega arith)
quad_at (suc n) k f h =
    ⊎_elim
    (λ e. rw e (get_or_at (quads_to n f) (quad_of f n) [] [] n (length_quads n f)))
    (λ l. get_or-append (quads_to n f) (quad_of f n ∷ []) [] k (omega (arith, length_quads n f)) ∙ quad_at n k f l)
    (eq-or-lt_of_le {n = k} {m = n} (omega arith))

take_four : (f : List ℕ) (j : ℕ) → j + 4 ≤ length f
    → take (j + 4) f ≡ take j f ++ get_or f j 0 ∷ get_or f (j + 1) 0 ∷ get_or f (j + 2) 0 ∷ get_or f (j + 3) 0 ∷ []
take_four f j h =
    let e : j + 4 ≡ suc (suc (suc (suc j))) = omega arith in
    let e1 : j + 1 ≡ suc j = omega arith in
    let e2 : j + 2 ≡ suc (suc j) = omega arith in
    let e3 : j + 3 ≡ suc (suc (suc j)) = omega arith in
    rw (e, e1, e2, e3)
    (take-suc f (suc (suc (suc j))) 0 (omega arith)
    ∙ ap (λ (l : List ℕ). l ++ (get_or f (suc (suc (suc j))) 0 ∷ [])) (take-suc f (suc (suc j)) 0 (omega arith))
    ∙ ap (λ (l : List ℕ). l ++ (get_or f (suc (suc j)) 0 ∷ []) ++ (get_or f (suc (suc (suc j))) 0 ∷ [])) (take-suc f (suc j) 0 (omega arith))
    ∙ ap (λ (l : List ℕ). l ++ (get_or f (suc j) 0 ∷ []) ++ (get_or f (suc (suc j)) 0 ∷ []) ++ (get_or f (suc (suc (suc j))) 0 ∷ [])) (take-suc f j 0 (omega arith))
    ∙ simp append_assoc)

flat_upto : (f : List ℕ) → length f ≡ 64 → (n : ℕ) → n ≤ 16 → flat_to n (quads_to 16 f) ≡ take (n * 4) f
flat_upto f e zero h = refl
flat_upto f e (suc n) h =
    let s : suc n * 4 ≡ n * 4 + 4 = omega arith in
    rw (s, quad_at 16 n f (omega arith))
    (ap (λ (l : List ℕ). l ++ quad_of f n) (flat_upto f e n (omega arith)) ∙ sym (take_four f (n * 4) (omega arith)))

pub flat_quads : (f : List ℕ) → length f ≡ 64 → flat_of (quads_of f) ≡ f
unfolding flat_of quads_of
flat_quads f e = flat_upto f e 16 (le_refl 16) ∙ take_all 64 f (omega arith)

last_at : (n j : ℕ) (q : Cache) → get_or (flat_to (suc n) q) (n * 4 + j) 0 ≡ get_or (words_of (get_or q n [])) j 0
last_at n j q =
    ap (λ (k : ℕ). get_or (flat_to (suc n) q) (k + j) 0) (sym (length_flat n q))
    ∙ get_or-append-add (flat_to n q) (words_of (get_or q n [])) j 0

-- word j of quad-word k, once it is there
word_at_law : (n k j : ℕ) (q : Cache) → k < n → j < 4 → get_or (flat_to n q) (k * 4 + j) 0 ≡ get_or (words_of (get_or q k [])) j 0
word_at_law zero k j q h g = absurd (omega arith)
word_at_law (suc n) k j q h g =
    ⊎_elim
    (λ e. subst (λ (m : ℕ). get_or (flat_to (suc n) q) (m * 4 + j) 0 ≡ get_or (words_of (get_or q m [])) j 0) (sym e) (last_at n j q))
    (λ l. get_or-append (flat_to n q) (words_of (get_or q n [])) 0 (k * 4 + j) (omega (arith, length_flat n q)) ∙ word_at_law n k j q l g)
    (eq-or-lt_of_le {n = k} {m = n} (omega arith))

four_words : (w : List ℕ) → length w ≡ 4 → words_of w ≡ w
four_words w h = words_all 4 w h

quad_flat : (q : Cache) (k : ℕ) → k < 16 → length (get_or q k []) ≡ 4 → quad_of (flat_to 16 q) k ≡ get_or q k []
quad_flat q k h e =
    let z : get_or (flat_to 16 q) (k * 4) 0 ≡ get_or (get_or q k []) 0 0
    = ap (λ (n : ℕ). get_or (flat_to 16 q) n 0) (sym (add-zero (k * 4))) ∙ word_at_law 16 k 0 q h (omega arith) in
    rw (z, word_at_law 16 k 1 q h (omega arith), word_at_law 16 k 2 q h (omega arith), word_at_law 16 k 3 q h (omega arith))
    (four_words (get_or q k []) e)

quads_upto : (q : Cache) → CacheShape q → (n : ℕ) → n ≤ 16 → quads_to n (flat_to 16 q) ≡ take n q
quads_upto q s zero h = refl
quads_upto q s (suc n) h =
    rw (quad_flat q n (omega arith) (s.four n (omega arith)), quads_upto q s n (omega arith)) (sym (take-suc q n [] (omega (arith, s.long))))

pub quads_flat : (q : Cache) → CacheShape q → quads_of (flat_of q) ≡ q
unfolding flat_of quads_of
quads_flat q s = quads_upto q s 16 (le_refl 16) ∙ take_all 16 q (omega (arith, s.long))

-- quad-words of a flat array, and the flat array of quad-words, have their lengths
pub shape_quads : (f : List ℕ) → CacheShape (quads_of f)
unfolding quads_of
shape_quads f = record { long = length_quads 16 f; four = λ i h. ap length (quad_at 16 i f h) }
