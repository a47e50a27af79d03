use mathlib.Core.Path.{refl}
use Rattle.hobbit.proofs.Laws.{run_returned}
use Rattle.hobbit.proofs.hobbit_run.Goals as goal

pub returns : goal.returns
returns c = let s = c.args in
    run_returned s.registers.now s.cache.now s.memory.now _ c.quads-q.ensures _ _ _ _ c.flat.ensures c.run_lent-x.result s.confined s.budget s.level _ refl refl refl c.run_lent-x.ensures
