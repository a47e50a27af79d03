-- The parcels on the list: each of them, once, rising.
-- Assumes nothing.
use Prim.Native.Nat.{ℕ, zero, suc, ◌+◌, ◌-◌, ◌≤◌, ◌<◌}
use mathlib.Core.Path.{◌≡◌, refl, ap, ◌∙◌}
use mathlib.Core.Bool.{true, false}
use mathlib.Core.List.{List, [], ◌∷◌}
use native.Mathlib.Numerals.{add-one}
use native.Mathlib.Omega.{arith}
use lib.ListN.{length, get_or, drop}
use lib.Dec.{ltb}
use borrow.Author.Tests.{ltb-true, ltb-false}
use Rattle.word.proofs.CaseLaws.{by_test}
use Rattle.parcels_listing.specs.Listing.{on_list, parcel_count, listed_of, listed_from}
use Rattle.parcels_listing.specs.OneParcelList.{Among}

-- ---- from a parcel on

pub none_from : (p : ℕ) → parcel_count ≤ p → listed_from p ≡ []
unfolding listed_of
none_from p h = let e : parcel_count - p ≡ 0 = omega arith in rw e refl

module _ (p : ℕ) (h : p < parcel_count) where
  pub listed_from_law : on_list p ≡ true → listed_from p ≡ p ∷ listed_from (p + 1)
  unfolding listed_of
  listed_from_law g = let e : parcel_count - p ≡ suc (parcel_count - (p + 1)) = omega arith in rw (e, g, add-one) refl

  pub unlisted_from : on_list p ≡ false → listed_from p ≡ listed_from (p + 1)
  unfolding listed_of
  unlisted_from g = let e : parcel_count - p ≡ suc (parcel_count - (p + 1)) = omega arith in rw (e, g, add-one) refl

-- ---- what is at a place of the list

pub record Member (n p q : ℕ) : Type 0 where
  pub from : p ≤ q
  pub below : q < p + n
  pub listed : on_list q ≡ true

module _ (n p : ℕ) where
  -- of one parcel more
  member_wider : (q : ℕ) → Member n (suc p) q → Member (suc n) p q
  member_wider q o = record { from = omega (arith, o.from); below = omega (arith, o.below); listed = o.listed }

  member_cons : (l : List ℕ) → ((k : ℕ) → k < length l → Member n (suc p) (get_or l k 0)) → on_list p ≡ true
      → (k : ℕ) → k < suc (length l) → Member (suc n) p (get_or (p ∷ l) k 0)
  member_cons l r e zero h = record { from = omega arith; below = omega arith; listed = e }
  member_cons l r e (suc k) h = member_wider (get_or l k 0) (r k (omega arith))

pub member_at : (n p k : ℕ) → k < length (listed_of n p) → Member n p (get_or (listed_of n p) k 0)
unfolding listed_of
member_at zero p k h = absurd (omega arith)
member_at (suc n) p k h =
    by_test (on_list p)
    (λ e. rw e (member_cons n p (listed_of n (suc p)) (λ j g. member_at n (suc p) j g) e k (rw e at h)))
    (λ e. rw e (member_wider n p (get_or (listed_of n (suc p)) k 0) (member_at n (suc p) k (rw e at h))))

-- ---- rising

rising_cons : (l : List ℕ) (p : ℕ) → ((k : ℕ) → k < length l → p < get_or l k 0)
    → ((j k : ℕ) → j < k → k < length l → get_or l j 0 < get_or l k 0)
    → (j k : ℕ) → j < k → k < suc (length l) → get_or (p ∷ l) j 0 < get_or (p ∷ l) k 0
rising_cons l p above r zero zero g h = absurd (omega arith)
rising_cons l p above r zero (suc k) g h = above k (omega arith)
rising_cons l p above r (suc j) zero g h = absurd (omega arith)
rising_cons l p above r (suc j) (suc k) g h = r j k (omega arith) (omega arith)

pub rising_list : (n p j k : ℕ) → j < k → k < length (listed_of n p) → get_or (listed_of n p) j 0 < get_or (listed_of n p) k 0
unfolding listed_of
rising_list zero p j k g h = absurd (omega arith)
rising_list (suc n) p j k g h =
    by_test (on_list p)
    (λ e. rw e
    (rising_cons (listed_of n (suc p)) p (λ i f. omega (arith, (member_at n (suc p) i f).from)) (λ i m f d. rising_list n (suc p) i m f d) j k g (rw e at h)))
    (λ e. rw e (rising_list n (suc p) j k g (rw e at h)))

-- ---- each

abbrev pub InList : List ℕ → ℕ → Type 0
InList l q = Among (λ k. get_or l k 0) (length l) q

place_later : (l : List ℕ) (p q : ℕ) → InList l q → InList (p ∷ l) q
place_later l p q f = record { place = suc f.place; within = omega (arith, f.within); number = f.number }

pub place_of_law : (n p q : ℕ) → p ≤ q → q < p + n → on_list q ≡ true → InList (listed_of n p) q
unfolding listed_of
place_of_law zero p q f g h = absurd (omega arith)
place_of_law (suc n) p q f g h =
    by_test (ltb p q)
    (λ e. let r = place_of_law n (suc p) q (ltb-true p q e) (omega arith) h in
    by_test (on_list p) (λ w. rw w (place_later (listed_of n (suc p)) p q r)) (λ w. rw w r))
    (λ e. let z : p ≡ q = omega (arith, ltb-false p q e) in
    let w : on_list p ≡ true = ap on_list z ∙ h in
    rw w (record { place = 0; within = omega arith; number = z }))

-- ---- the list from one of its parcels on

from_cons : (n p : ℕ) (l : List ℕ) → listed_of (suc n) p ≡ p ∷ l
    → ((j : ℕ) → j < length l → listed_of (suc p + n - get_or l j 0) (get_or l j 0) ≡ drop j l)
    → (k : ℕ) → k < suc (length l) → listed_of (p + suc n - get_or (p ∷ l) k 0) (get_or (p ∷ l) k 0) ≡ drop k (p ∷ l)
from_cons n p l e r zero h = let z : p + suc n - p ≡ suc n = omega arith in rw z e
from_cons n p l e r (suc k) h = let z : p + suc n ≡ suc p + n = omega arith in rw z (r k (omega arith))

pub from_place : (n p k : ℕ) → k < length (listed_of n p)
    → listed_of (p + n - get_or (listed_of n p) k 0) (get_or (listed_of n p) k 0) ≡ drop k (listed_of n p)
unfolding listed_of
from_place zero p k h = absurd (omega arith)
from_place (suc n) p k h =
    by_test (on_list p)
    (λ e. let w : listed_of (suc n) p ≡ p ∷ listed_of n (suc p) = rw e refl in
    rw w (from_cons n p (listed_of n (suc p)) w (λ j g. from_place n (suc p) j g) k (rw e at h)))
    (λ e. let w : listed_of (suc n) p ≡ listed_of n (suc p) = rw e refl in
    let z : p + suc n ≡ suc p + n = omega arith in
    rw (w, z) (from_place n (suc p) k (rw e at h)))
