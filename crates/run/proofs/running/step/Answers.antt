use mathlib.Core.Path.{ap}
use Rattle.run_spec.specs.Run.{RunResult}
use Rattle.run.specs.Code.{StepResult}
use Rattle.run.proofs.running.step.Goals as goal

pub returns : goal.returns
returns c = ap {B = StepResult} (λ (e : RunResult). record { refusal = e.code; left = e.left }) c.run-x.ensures
