-- The stepping call takes the steps of confined runs: one step of it, and the boards that a run passes.
-- Assumes nothing.
use Rattle.std.specs.Prelude.{ℕ, ◌<◌, ◌≡◌, true, false, ◌∷◌, get_or}
use Rattle.run_spec.specs.Run.{Board, budget_spent, refusal, run}
use Rattle.run.specs.Code.{step_result, one_step}
use Rattle.isolation.specs.Execution.{RunRequest, confined, execution}

-- "Before its first event sequence a run of kind 03, or the stepping call, takes these same steps": where a confined run of
-- budget 1 does its step, the stepping call answers 0 and leaves the same board
abbrev pub SteppedAlike : Type 0
SteppedAlike =
    (level : ℕ) (s : Board) → (run true 1 level s).stop ≡ budget_spent
    → one_step level s ≡ step_result 0 (run true 1 level s).left

-- so the board after each step of a confined run is what the stepping call leaves of the board before it, which it does not
-- refuse
abbrev pub ExecutionStepped : Type 0
ExecutionStepped =
    (o : RunRequest) (k : ℕ) (s d : Board) → k < (confined o s).steps → refusal false o.level (get_or (s ∷ execution o s) k d) ≡ 0
    → one_step o.level (get_or (s ∷ execution o s) k d) ≡ step_result 0 (get_or (execution o s) k d)
