-- What tracing makes of an instruction, as a number: 0 every instruction, 1 those that may jump, 2 none.
-- Assumes nothing.
use Rattle.std.specs.Prelude.{ℕ, cond, eqb}
use Rattle.exec_spec.specs.Execute.{Traced, always, at_jumps, never}

abbrev pub traced_from : ℕ → Traced
traced_from k = cond (eqb k 0) always (cond (eqb k 1) at_jumps never)
