use Rattle.exec.proofs.ExecuteLaws.{does_two, does_one, does_zero}
use Rattle.access_spec.specs.Journal.{journaled}
use Rattle.machine.specs.Status.{cpu}
use Rattle.exec.proofs.execute.execute.Goals as goal

pub returns-in-Two : goal.returns-in-Two
returns-in-Two c = let s = c.args in
    does_two (cpu s.r.now s.q.now) s.n s.a (journaled s.m.now s.journal.now) _ _ _ _ _ c.in-Two.is c.execute_two.ensures

pub returns-in-One : goal.returns-in-One
returns-in-One c = let s = c.args in
    does_one (cpu s.r.now s.q.now) s.n s.a (journaled s.m.now s.journal.now) _ _ _ _ c.in-One.is c.execute_monadic.ensures

pub returns-in-Zero : goal.returns-in-Zero
returns-in-Zero c = let s = c.args in
    does_zero (cpu s.r.now s.q.now) s.n s.a (journaled s.m.now s.journal.now) _ _ c.in-Zero.is c.execute_niladic.ensures
