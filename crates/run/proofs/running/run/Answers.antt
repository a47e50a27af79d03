use Rattle.run.proofs.RunLaws.{run_machine}
use Rattle.run.proofs.running.run.Goals as goal

pub returns : goal.returns
returns c = let s = c.args in
    run_machine s.confined s.budget s.level s.begun s.m.now _ _ c.bank-r.ensures.0 c.bank-r.ensures.1 c.quads-q.ensures _ _ _ _ _ _ c.run_lent-x.ensures _ c.machine_of.ensures
