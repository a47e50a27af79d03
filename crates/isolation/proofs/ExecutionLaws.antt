-- The boards of an execution are those that runs of smaller budgets leave, and the last one is what the run leaves.
-- Assumes nothing.
use Prim.Native.Nat.{ℕ, zero, suc, ◌+◌, ◌-◌, ◌<◌, ◌≤◌}
use mathlib.Core.Path.{◌≡◌, refl}
use mathlib.Core.Bool.{true}
use mathlib.Core.List.{List, [], ◌∷◌}
use native.Mathlib.Omega.{arith}
use native.Mathlib.Nat.{add-zero, zero-add}
use lib.ListN.{get_or, length}
use Rattle.run_spec.specs.Run.{Board, Turn, goes, ends, confined_turn, run_result, budget_spent, going, advance, refusal, unless_refused, run}
use Rattle.isolation.specs.Execution.{RunRequest, confined, passing, passed, none_if_refused, execution}

module _ (t : Board → Turn) where
  abbrev AtBudget : ℕ → Type 0
  AtBudget budget =
      (n k : ℕ) (s d : Board) → k < length (passed t budget s) → get_or (passed t budget s) k d ≡ (advance t n (suc k) s).left

  turn_at : (budget : ℕ) → AtBudget budget → (n k : ℕ) (d : Board) (x : Turn) → k < length (passing (λ u. passed t budget u) x)
      → get_or (passing (λ u. passed t budget u) x) k d ≡ (going n (λ u. advance t (suc n) k u) x).left
  unfolding advance
  turn_at budget h n zero d (goes s) l = refl
  turn_at budget h n zero d (ends r c s) l = refl
  turn_at budget h n (suc k) d (goes s) l = h (suc n) k s d (omega arith)
  turn_at budget h n (suc k) d (ends r c s) l = absurd (omega arith)

  -- the board at place k of an execution, from 0, is what the run with the budget k + 1 leaves
  pub passed_at : (budget n k : ℕ) (s d : Board) → k < length (passed t budget s)
      → get_or (passed t budget s) k d ≡ (advance t n (suc k) s).left
  unfolding passed advance
  passed_at zero n k s d l = absurd (omega arith)
  passed_at (suc budget) n k s d l = turn_at budget (passed_at budget) n k d (t s) l

  -- every step that is done has its board
  pub passed_steps : (n budget : ℕ) (s : Board) → (advance t n budget s).steps ≤ n + length (passed t budget s)
  unfolding passed advance
  passed_steps n zero s = omega arith
  passed_steps n (suc budget) s = go (λ u. passed_steps (suc n) budget u) (t s)
    where
      go : ((u : Board) → (advance t (suc n) budget u).steps ≤ suc n + length (passed t budget u)) → (x : Turn)
          → (going n (λ u. advance t (suc n) budget u) x).steps ≤ n + length (passing (λ u. passed t budget u) x)
      go h (goes u) = omega (arith, h u)
      go h (ends r c u) = omega arith

  -- a smaller budget is spent by the same steps
  pub advance_spent : (n budget k : ℕ) (s : Board) → n + k ≤ (advance t n budget s).steps
      → advance t n k s ≡ run_result (n + k) budget_spent 0 (advance t n k s).left
  unfolding advance
  advance_spent n budget zero s l = rw add-zero refl
  advance_spent n zero (suc k) s l = absurd (omega arith)
  advance_spent n (suc budget) (suc k) s l = go (λ u h. advance_spent (suc n) budget k u h) (t s) l
    where
      go : ((u : Board) → suc n + k ≤ (advance t (suc n) budget u).steps
          → advance t (suc n) k u ≡ run_result (suc n + k) budget_spent 0 (advance t (suc n) k u).left)
          → (x : Turn) → n + suc k ≤ (going n (λ u. advance t (suc n) budget u) x).steps
          → going n (λ u. advance t (suc n) k u) x ≡ run_result (n + suc k) budget_spent 0 (going n (λ u. advance t (suc n) k u) x).left
      go f (goes u) h =
          let e : n + suc k ≡ suc n + k = omega arith in
          rw e (f u (omega arith))
      go f (ends r c u) h = absurd (omega arith)

  -- a budget that is not 0 passes a board
  passed_none : (budget n : ℕ) (s : Board) → length (passed t budget s) ≡ 0 → s ≡ (advance t n budget s).left
  unfolding passed advance
  passed_none zero n s l = refl
  passed_none (suc budget) n s l = absurd (go (t s) l)
    where
      go : (x : Turn) → length (passing (λ u. passed t budget u) x) ≡ 0 → ⊥
      go (goes u) h = omega arith
      go (ends r c u) h = omega arith

  last_of : (s d z : Board) (l : List Board) → (0 < length l → get_or l (length l - 1) d ≡ z) → (length l ≡ 0 → s ≡ z)
      → get_or (s ∷ l) (length (s ∷ l) - 1) d ≡ z
  last_of s d z [] f g = g refl
  last_of s d z (x ∷ l) f g =
      let e : suc (suc (length l)) - 1 ≡ suc (length l) = omega arith in
      let h : suc (length l) - 1 ≡ length l = omega arith in
      rw e (rw h at (f (omega arith)))

  abbrev LastAt : ℕ → Type 0
  LastAt budget =
      (n : ℕ) (s d : Board) → 0 < length (passed t budget s)
      → get_or (passed t budget s) (length (passed t budget s) - 1) d ≡ (advance t n budget s).left

  turn_last : (budget : ℕ) → LastAt budget → (n : ℕ) (d : Board) (x : Turn)
      → get_or (passing (λ u. passed t budget u) x) (length (passing (λ u. passed t budget u) x) - 1) d
      ≡ (going n (λ u. advance t (suc n) budget u) x).left
  turn_last budget h n d (ends r c s) = refl
  turn_last budget h n d (goes s) =
      last_of s d (advance t (suc n) budget s).left (passed t budget s) (h (suc n) s d) (passed_none budget (suc n) s)

  -- the last board is what the run leaves
  pub passed_last : (budget n : ℕ) (s d : Board) → 0 < length (passed t budget s)
      → get_or (passed t budget s) (length (passed t budget s) - 1) d ≡ (advance t n budget s).left
  unfolding passed advance
  passed_last zero n s d l = absurd (omega arith)
  passed_last (suc budget) n s d l = turn_last budget (passed_last budget) n d (t s)

-- ---- confined runs

abbrev pub of_budget : ℕ → RunRequest → RunRequest
of_budget k o = record { budget = k; level = o.level }

pub execution_at : (o : RunRequest) (k : ℕ) (s d : Board) → k < length (execution o s) → get_or (execution o s) k d ≡ (confined (of_budget (suc k) o) s).left
unfolding execution run
execution_at o k s d l = go (refusal true o.level s) l
  where
    go : (r : ℕ) → k < length (none_if_refused r (passed (confined_turn o.level) o.budget s))
        → get_or (none_if_refused r (passed (confined_turn o.level) o.budget s)) k d
        ≡ (unless_refused r (advance (confined_turn o.level) 0 (suc k) s) s).left
    go zero h = passed_at (confined_turn o.level) o.budget 0 k s d h
    go (suc r) h = absurd (omega arith)

-- and the last one, if there is any, what the run itself leaves
pub execution_last : (o : RunRequest) (s d : Board) → 0 < length (execution o s) → get_or (execution o s) (length (execution o s) - 1) d ≡ (confined o s).left
unfolding execution run
execution_last o s d l = go (refusal true o.level s) l
  where
    go : (r : ℕ) → 0 < length (none_if_refused r (passed (confined_turn o.level) o.budget s))
        → get_or (none_if_refused r (passed (confined_turn o.level) o.budget s)) (length (none_if_refused r (passed (confined_turn o.level) o.budget s)) - 1) d
        ≡ (unless_refused r (advance (confined_turn o.level) 0 o.budget s) s).left
    go zero h = passed_last (confined_turn o.level) o.budget 0 s d h
    go (suc r) h = absurd (omega arith)

-- every step that a run has done has its board
pub execution_steps : (o : RunRequest) (s : Board) → (confined o s).steps ≤ length (execution o s)
unfolding execution run
execution_steps o s = go (refusal true o.level s)
  where
    go : (r : ℕ) → (unless_refused r (advance (confined_turn o.level) 0 o.budget s) s).steps
        ≤ length (none_if_refused r (passed (confined_turn o.level) o.budget s))
    go zero = rw zero-add at (passed_steps (confined_turn o.level) 0 o.budget s)
    go (suc r) = omega arith

-- the run with the budget k, for k of its steps, does k steps and no more
pub execution_spent : (o : RunRequest) (k : ℕ) (s : Board) → 0 < (confined o s).steps → k ≤ (confined o s).steps
    → confined (of_budget k o) s ≡ run_result k budget_spent 0 (confined (of_budget k o) s).left
unfolding run
execution_spent o k s p l = go (refusal true o.level s) p l
  where
    go : (r : ℕ) → 0 < (unless_refused r (advance (confined_turn o.level) 0 o.budget s) s).steps
        → k ≤ (unless_refused r (advance (confined_turn o.level) 0 o.budget s) s).steps
        → unless_refused r (advance (confined_turn o.level) 0 k s) s
        ≡ run_result k budget_spent 0 (unless_refused r (advance (confined_turn o.level) 0 k s) s).left
    go zero p h = rw zero-add at (advance_spent (confined_turn o.level) 0 o.budget k s (rw zero-add h))
    go (suc r) p h = absurd (omega arith)
