-- Confined runs as demand 3 speaks of them: a request for one, what its 83 line carries, and the boards that it passes.
-- Assumes nothing.
use Rattle.std.specs.Prelude.{ℕ, zero, suc, true, List, [], ◌∷◌}
use Rattle.machine.specs.Registers.{pc, psw}
use Rattle.machine.specs.Status.{reg}
use Rattle.run_spec.specs.Run.{Board, Turn, goes, ends, confined_turn, RunResult, refusal, run}

-- "Budgets are any words and inputs any bytes, above 7 as well": any numbers
pub record RunRequest : Type 0 where
  pub budget : ℕ
  pub level : ℕ

-- kind 04: the confined run that a request asks for
abbrev pub confined : RunRequest → Board → RunResult
confined o s = run true o.budget o.level s

-- "A run's answers are all that its 83 line carries": steps done, stop, code, PC and PSW
pub record Report : Type 0 where
  pub steps : ℕ
  pub stop : ℕ
  pub code : ℕ
  pub counter : ℕ
  pub status : ℕ

abbrev pub report : RunResult → Report
report e =
    record {
      steps = e.steps;
      stop = e.stop;
      code = e.code;
      counter = reg e.left.cpu pc;
      status = reg e.left.cpu psw;
    }

-- the boards after each step, and last the one after the attempt, or the look, that ends the run
abbrev pub passing : (Board → List Board) → Turn → List Board
passing go (goes s) = s ∷ go s
passing go (ends reason code s) = s ∷ []

unfoldable pub passed : (Board → Turn) → ℕ → Board → List Board
passed t zero s = []
passed t (suc budget) s = passing (λ u. passed t budget u) (t s)

abbrev pub none_if_refused : ℕ → List Board → List Board
none_if_refused zero l = l
none_if_refused (suc r) l = []

-- of a run that is refused before its first step there are none
unfoldable pub execution : RunRequest → Board → List Board
execution o s = none_if_refused (refusal true o.level s) (passed (confined_turn o.level) o.budget s)
