-- The answer of a run's code, with the board that it left.
-- Assumes nothing.
use Rattle.run_spec.specs.declared.Stopped.{Stopped}
use Rattle.run_spec.specs.Run.{Board, RunResult, run_result}

abbrev pub stopped_at : Stopped → Board → RunResult
stopped_at x s = run_result x.steps x.stop x.code s
