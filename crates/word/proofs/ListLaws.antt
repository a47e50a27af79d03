-- What holds of each of a list, and numbers that it contains.
-- Assumes nothing.
use Rattle.std.proofs.Common.{◌≡◌, ℕ, zero, suc, ◌<◌, Bool, true, ◌&&◌, eqb, ltb, List, [], ◌∷◌, ◌++◌, length, get_or, sym, refl, subst, arith, ltb-true, eqb-true}
use Rattle.word.specs.Lists.{contains}
use Rattle.word.proofs.CaseLaws.{by_test, not_both, and_left, and_right}

-- in one of two parts
pub contains_left : (x : ℕ) (l r : List ℕ) → contains l x ≡ true → contains (l ++ r) x ≡ true
contains_left x [] r h = not_both h
contains_left x (y ∷ l) r h = by_test (eqb x y) (λ e. rw e refl) (λ e. rw e (contains_left x l r (rw e at h)))

pub contains_right : (x : ℕ) (l r : List ℕ) → contains r x ≡ true → contains (l ++ r) x ≡ true
contains_right x [] r h = h
contains_right x (y ∷ l) r h = by_test (eqb x y) (λ e. rw e refl) (λ e. rw e (contains_right x l r h))

-- what holds of each of a list holds of what stands at a place of it, and of a number that it contains
infixr 20 ◌also◌
pub data Each {A : Type 0} (P : A → Type 0) : List A → Type 0 where
  no_others : Each P []
  ◌also◌ : {y : A} {l : List A} → P y → Each P l → Each P (y ∷ l)

pub each_at : {A : Type 0} (P : A → Type 0) (l : List A) (d : A) → Each P l → (i : ℕ) → i < length l → P (get_or l i d)
each_at P [] d no_others i h = absurd (omega arith)
each_at P (y ∷ l) d (p also e) zero h = p
each_at P (y ∷ l) d (p also e) (suc i) h = each_at P l d e i (omega arith)

pub contains_each : (P : ℕ → Type 0) (l : List ℕ) → Each P l → (x : ℕ) → contains l x ≡ true → P x
contains_each P [] no_others x h = not_both h
contains_each P (y ∷ l) (p also e) x h =
    by_test (eqb x y) (λ t. subst P (sym (eqb-true x y t)) p) (λ t. contains_each P l e x (rw t at h))

-- numbers below another, by a computed test
abbrev pub all_below : ℕ → List ℕ → Bool
all_below n [] = true
all_below n (y ∷ l) = ltb y n && all_below n l

pub contains_below : (n x : ℕ) (l : List ℕ) → all_below n l ≡ true → contains l x ≡ true → x < n
contains_below n x [] t h = not_both h
contains_below n x (y ∷ l) t h =
    by_test (eqb x y)
    (λ e. let z : x ≡ y = eqb-true x y e in omega (arith, z, ltb-true y n (and_left (ltb y n) (all_below n l) t)))
    (λ e. contains_below n x l (and_right (ltb y n) (all_below n l) t) (rw e at h))
