-- What the range arms and the last arm of a `match` on a number know, whose arms stand in ascending order.
-- Assumes nothing.
use Rattle.std.proofs.Common.{◌≡◌, ℕ, zero, suc, ◌+◌, ◌<◌, ◌≤◌, sym, subst, ⊎_elim, eq-or-lt_of_le, arith}

-- the refuted keys of n arms from m on, over those of the arms before
abbrev pub From : Type 0 → ℕ → ℕ → ℕ → Type 0
From A m zero x = A
From A m (suc n) x = From A m n x × (x ≡ m + n → ⊥)

-- the arms before
pub base : (A : Type 0) (m n x : ℕ) → From A m n x → A
base A m zero x r = r
base A m (suc n) x r = base A m n x r.0

-- a number that is at least m and none of the n keys from m on
pub climb : (A : Type 0) (m n x : ℕ) → m ≤ x → From A m n x → m + n ≤ x
climb A m zero x h r = omega arith
climb A m (suc n) x h r =
    let k : m + n ≤ x = climb A m n x h r.0 in
    ⊎_elim (λ e. absurd (r.1 (sym e))) (λ l. omega arith) (eq-or-lt_of_le k)

-- P at each of the n numbers from a on
abbrev pub All : (ℕ → Type 0) → ℕ → ℕ → Type 0
All P a zero = Unit {0}
All P a (suc n) = All P a n × P (a + n)

pub within : (P : ℕ → Type 0) (a n : ℕ) → All P a n → (x : ℕ) → a ≤ x → x < a + n → P x
within P a zero p x h k = absurd (omega arith)
within P a (suc n) p x h k =
    let l : x ≤ a + n = omega arith in
    ⊎_elim (λ e. subst P (sym e) p.1) (λ m. within P a n p.0 x h m) (eq-or-lt_of_le l)
