-- A test that is computed at every number of d bits, and what it proves of each.
-- Assumes nothing.
use Rattle.std.proofs.Common.{◌≡◌, ℕ, zero, suc, ◌+◌, ◌^◌, ◌<◌, ◌≤◌, Bool, true, ◌&&◌, leb, subst, arith, leb-false, leb-true}
use Rattle.word.proofs.CaseLaws.{by_test, and_left, and_right}

-- f holds at the 2 ^ d numbers from b on: a tree, so that the computation is d deep
abbrev pub every : (ℕ → Bool) → ℕ → ℕ → Bool
every f zero b = f b
every f (suc d) b = every f d b && every f d (b + 2 ^ d)

pub holds : (f : ℕ → Bool) (d b k : ℕ) → b ≤ k → k < b + 2 ^ d → every f d b ≡ true → f k ≡ true
holds f zero b k l h t = let e : b ≡ k = omega arith in subst (λ (n : ℕ). f n ≡ true) e t
holds f (suc d) b k l h t =
    by_test (leb (b + 2 ^ d) k)
    (λ e. holds f d (b + 2 ^ d) k (leb-true _ _ e) (omega arith) (and_right (every f d b) (every f d (b + 2 ^ d)) t))
    (λ e. holds f d b k l (leb-false _ _ e) (and_left (every f d b) (every f d (b + 2 ^ d)) t))
