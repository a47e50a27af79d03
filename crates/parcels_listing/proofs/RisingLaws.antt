-- Two rising sequences with the same numbers are the same.
-- Assumes nothing.
use Prim.Native.Nat.{ℕ, zero, suc, ◌≤◌, ◌<◌}
use mathlib.Core.Path.{◌≡◌, ap}
use native.Mathlib.Omega.{arith}
use lib.Dec.{ltb}
use borrow.Author.Tests.{ltb-true, ltb-false}
use Rattle.word.proofs.CaseLaws.{by_test}
use Rattle.parcels_listing.specs.OneParcelList.{Among}

abbrev pub Ascending : (ℕ → ℕ) → ℕ → Type 0
Ascending f m = (j k : ℕ) → j < k → k < m → f j < f k

module _ (f : ℕ → ℕ) (m : ℕ) (r : Ascending f m) where
  rising_le : (j k : ℕ) → j ≤ k → k < m → f j ≤ f k
  rising_le j k h l =
      by_test (ltb j k)
      (λ e. omega (arith, r j k (ltb-true j k e) l))
      (λ e. let z : j ≡ k = omega (arith, ltb-false j k e) in omega (arith, ap f z))

  -- no number comes twice
  pub rising_once : (j k : ℕ) → j < m → k < m → f j ≡ f k → j ≡ k
  rising_once j k g h e =
      by_test (ltb j k)
      (λ l. absurd (omega (arith, r j k (ltb-true j k l) h)))
      (λ l. by_test (ltb k j)
      (λ u. absurd (omega (arith, r k j (ltb-true k j u) g)))
      (λ u. omega (arith, ltb-false j k l, ltb-false k j u)))

module _ (f g : ℕ → ℕ) (m n : ℕ) (rf : Ascending f m) (rg : Ascending g n) (fg : (k : ℕ) → k < m → Among g n (f k)) (gf : (k : ℕ) → k < n → Among f m (g k)) where
  record SameAt (k : ℕ) : Type 0 where
    within : k < n
    same : f k ≡ g k

  -- the numbers before place k are the same
  before : (k : ℕ) → ((j : ℕ) → j < k → SameAt j) → k < m → SameAt k
  before k s h = record { within = inside; same = omega (arith, above, below) }
    where
      a : Among g n (f k)
      a = fg k h

      not_before : k ≤ a.place
      not_before =
          by_test (ltb a.place k)
          (λ e. let l : a.place < k = ltb-true a.place k e in
          absurd (omega (arith, rf a.place k l h, (s a.place l).same, a.number)))
          (λ e. ltb-false a.place k e)

      inside : k < n
      inside = omega (arith, not_before, a.within)

      b : Among f m (g k)
      b = gf k inside

      nor_before : k ≤ b.place
      nor_before =
          by_test (ltb b.place k)
          (λ e. let l : b.place < k = ltb-true b.place k e in
          absurd (omega (arith, rg b.place k l inside, (s b.place l).same, b.number)))
          (λ e. ltb-false b.place k e)

      above : g k ≤ f k
      above = omega (arith, rising_le g n rg k a.place not_before a.within, a.number)

      below : f k ≤ g k
      below = omega (arith, rising_le f m rf k b.place nor_before b.within, b.number)

  upto : (i : ℕ) → i ≤ m → (j : ℕ) → j < i → SameAt j
  upto zero h j l = absurd (omega arith)
  upto (suc i) h j l =
      by_test (ltb j i)
      (λ e. upto i (omega arith) j (ltb-true j i e))
      (λ e. let z : j ≡ i = omega (arith, ltb-false j i e) in
      rw z (before i (λ k w. upto i (omega arith) k w) (omega arith)))

  pub rising_within : (k : ℕ) → k < m → k < n
  rising_within k h = (upto m (omega arith) k h).within

  pub rising_same : (k : ℕ) → k < m → f k ≡ g k
  rising_same k h = (upto m (omega arith) k h).same

module _ (f g : ℕ → ℕ) (m n : ℕ) (rf : Ascending f m) (rg : Ascending g n) (fg : (k : ℕ) → k < m → Among g n (f k)) (gf : (k : ℕ) → k < n → Among f m (g k)) where
  pub rising_count : m ≡ n
  rising_count =
      by_test (ltb m n)
      (λ e. absurd (omega (arith, rising_within g f n m rg rf gf fg m (ltb-true m n e))))
      (λ e. by_test (ltb n m)
      (λ l. absurd (omega (arith, rising_within f g m n rf rg fg gf n (ltb-true n m l))))
      (λ l. omega (arith, ltb-false m n e, ltb-false n m l)))
