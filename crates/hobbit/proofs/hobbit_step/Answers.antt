use Rattle.hobbit.proofs.Laws.{step_returned}
use Rattle.hobbit.proofs.hobbit_step.Goals as goal

pub returns : goal.returns
returns c = let s = c.args in
    step_returned s.registers.now s.cache.now s.memory.now _ c.quads-q.ensures _ _ _ _ c.flat.ensures c.run_lent-x.result s.level c.run_lent-x.ensures
