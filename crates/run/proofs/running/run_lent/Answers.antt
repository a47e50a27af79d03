use Rattle.run.proofs.RunLaws.{words_whole, run_refused, run_none, run_advanced}
use Rattle.machine.specs.Status.{cpu}
use Rattle.run_spec.specs.Run.{board}
use Rattle.run.proofs.running.run_lent.Goals as goal

pub returns-then-e-ne0 : goal.returns-then-e-ne0
returns-then-e-ne0 c = let s = c.args in
    run_refused s.confined s.budget s.level (board (cpu s.r.now s.q.now) s.m.now) _ (c.refusal-e.ensures s.q.now) c.if-e-ne0.true

pub returns-then-budget-eq0 : goal.returns-then-budget-eq0
returns-then-budget-eq0 c = let s = c.args in
    run_none s.confined s.budget s.level (board (cpu s.r.now s.q.now) s.m.now) _ (c.refusal-e.ensures s.q.now) c.if-e-ne0.false c.if-budget-eq0.true

pub advance-requires : goal.advance-requires
advance-requires c = let s = c.args in
    words_whole s.confined s.level (board (cpu s.r.now s.q.now) s.m.now) _ (c.refusal-e.ensures s.q.now) c.if-e-ne0.false

pub returns : goal.returns
returns c = let s = c.args in
    run_advanced s.confined s.budget s.level (board (cpu s.r.now s.q.now) s.m.now) _ (c.refusal-e.ensures s.q.now) c.if-e-ne0.false _ c.advance.ensures
