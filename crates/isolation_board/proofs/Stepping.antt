-- The stepping call takes the steps of confined runs.
-- Assumes nothing.
use Prim.Native.Nat.{ℕ, zero, suc, ◌+◌, ◌<◌}
use mathlib.Core.Path.{◌≡◌, refl}
use mathlib.Core.Bool.{true, false}
use mathlib.Core.List.{◌∷◌}
use native.Mathlib.Omega.{arith}
use native.Mathlib.Nat.{zero-add}
use lib.ListN.{get_or}
use Rattle.run_spec.specs.Run.{Board, Turn, goes, ends, turn, confined_turn, going, advance, refusal, unless_refused, run}
use Rattle.run.specs.Code.{step_result, one_step}
use Rattle.isolation.specs.Execution.{RunRequest, confined, passing, passed, none_if_refused, execution}
use Rattle.isolation.proofs.UnconfinedLaws.{turn_same, run_same, run_code}
use Rattle.isolation_board.specs.Stepping.{SteppedAlike, ExecutionStepped}

pub stepped_alike : SteppedAlike
stepped_alike level s h = rw (run_same 1 level s h, run_code 1 level s h) refl

-- a board of an execution is left by the turn of the one before it
module _ (t : Board → Turn) (d : Board) where
  passed_next : (n budget k : ℕ) (s : Board) → n + k < (advance t n budget s).steps
      → t (get_or (s ∷ passed t budget s) k d) ≡ goes (get_or (passed t budget s) k d)
  unfolding passed advance
  passed_next n zero k s l = absurd (omega arith)
  passed_next n (suc budget) k s l = go (λ j u. passed_next (suc n) budget j u) (t s) refl k l
    where
      go : ((j : ℕ) (u : Board) → suc n + j < (advance t (suc n) budget u).steps
          → t (get_or (u ∷ passed t budget u) j d) ≡ goes (get_or (passed t budget u) j d))
          → (x : Turn) → t s ≡ x → (k : ℕ) → n + k < (going n (λ u. advance t (suc n) budget u) x).steps
          → t (get_or (s ∷ passing (λ u. passed t budget u) x) k d) ≡ goes (get_or (passing (λ u. passed t budget u) x) k d)
      go f (goes u) e zero l = e
      go f (goes u) e (suc k) l = f k u (omega arith)
      go f (ends r c u) e k l = absurd (omega arith)

execution_next : (o : RunRequest) (k : ℕ) (s d : Board) → k < (confined o s).steps
    → confined_turn o.level (get_or (s ∷ execution o s) k d) ≡ goes (get_or (execution o s) k d)
unfolding execution run
execution_next o k s d l = go (refusal true o.level s) l
  where
    go : (r : ℕ) → k < (unless_refused r (advance (confined_turn o.level) 0 o.budget s) s).steps
        → confined_turn o.level (get_or (s ∷ none_if_refused r (passed (confined_turn o.level) o.budget s)) k d)
        ≡ goes (get_or (none_if_refused r (passed (confined_turn o.level) o.budget s)) k d)
    go zero h = passed_next (confined_turn o.level) d 0 o.budget k s (rw zero-add h)
    go (suc r) h = absurd (omega arith)

step_goes : (level : ℕ) (s u : Board) → refusal false level s ≡ 0 → turn level s ≡ goes u → one_step level s ≡ step_result 0 u
unfolding run advance
step_goes level s u e f = rw (e, f) refl

pub execution_stepped : ExecutionStepped
execution_stepped o k s d l e =
    let u = get_or (s ∷ execution o s) k d in
    let v = get_or (execution o s) k d in
    step_goes o.level u v e (turn_same o.level u v (execution_next o k s d l))
