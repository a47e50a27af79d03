-- What the code answers to a list of confined runs, from the theorem on the definitions.
-- Assumes nothing.
use Prim.Native.Nat.{ℕ}
use mathlib.Core.Path.{◌≡◌, sym, ap, ◌∙◌}
use mathlib.Core.Bool.{true}
use mathlib.Core.List.{List, [], ◌∷◌}
use Rattle.memory.specs.Bytes.{Memory}
use Rattle.machine.specs.Status.{Cpu}
use Rattle.run_spec.specs.Run.{Board, board, RunResult, run}
use Rattle.run_spec.specs.Stopping.{stopped_at}
use Rattle.isolation.specs.Execution.{RunRequest, confined, Report, report}
use Rattle.isolation.specs.Isolation.{Same, SameRun, SameRuns}
use Rattle.isolation_board.specs.Confinement.{ConfinedCall, Outcome, ConfinedCalls, SameOutcome, SameOutcomes, Confinement}
use Rattle.isolation.proofs.Isolation.{isolation}

-- what the exported contract says of a confined run: it asks for nothing, and the answer is that of the definition
pub answers_say : (c : Cpu) (m : Memory) (o : RunRequest) (x : Outcome) → ConfinedCall c m o x
    → stopped_at x.answer (board x.machine x.memory) ≡ run true o.budget o.level (board c m)
answers_say c m o x h = h tt

module _ (H : ℕ → Type 0) (a₀ b₀ : Board) where
  -- one run on both sides, by what the code answered
  outcome : (o : RunRequest) (a b : Cpu) (m n : Memory) (x y : Outcome) → ConfinedCall a m o x → ConfinedCall b n o y
      → SameRun H a₀ b₀ o (board a m) (board b n) → SameOutcome H a₀.memory b₀.memory x y
  outcome o a b m n x y f g s =
      record {
        steps = ap (λ (r : Report). r.steps) reports;
        stop = ap (λ (r : Report). r.stop) reports;
        code = ap (λ (r : Report). r.code) reports;
        registers = left.registers;
        others = left.others;
        first_a = left.first_a;
        first_b = left.first_b;
      }
    where
      reports : report (stopped_at x.answer (board x.machine x.memory))
          ≡ report (stopped_at y.answer (board y.machine y.memory))
      reports = ap (λ (e : RunResult). report e) (f tt) ∙ s.answer ∙ ap (λ (e : RunResult). report e) (sym (g tt))

      left : Same H a₀ b₀ (board x.machine x.memory) (board y.machine y.memory)
      left = rw (ap (λ (e : RunResult). e.left) (f tt), ap (λ (e : RunResult). e.left) (g tt)) s.left

  outcomes : (os : List RunRequest) (a b : Cpu) (m n : Memory) (xs ys : List Outcome) → ConfinedCalls a m os xs → ConfinedCalls b n os ys
      → SameRuns H a₀ b₀ os (board a m) (board b n) → SameOutcomes H a₀.memory b₀.memory xs ys
  outcomes [] a b m n [] [] f g s = tt
  outcomes [] a b m n [] (y ∷ ys) f g s = absurd g
  outcomes [] a b m n (x ∷ xs) ys f g s = absurd f
  outcomes (o ∷ os) a b m n [] ys f g s = absurd f
  outcomes (o ∷ os) a b m n (x ∷ xs) [] f g s = absurd g
  outcomes (o ∷ os) a b m n (x ∷ xs) (y ∷ ys) f g s =
      let rest = outcomes os x.machine y.machine x.memory y.memory xs ys f.1 g.1 (moved s.1) in
      (outcome o a b m n x y f.0 g.0 s.0, rest)
    where
      moved : SameRuns H a₀ b₀ os (confined o (board a m)).left (confined o (board b n)).left
          → SameRuns H a₀ b₀ os (board x.machine x.memory) (board y.machine y.memory)
      moved r = rw (ap (λ (e : RunResult). e.left) (f.0 tt), ap (λ (e : RunResult). e.left) (g.0 tt)) r

pub confinement : Confinement
confinement H a b m n apart os xs ys f g =
    outcomes H (board a m) (board b n) os a b m n xs ys f g (isolation H (board a m) (board b n) apart os)
