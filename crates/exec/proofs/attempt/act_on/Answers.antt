use Rattle.exec.proofs.ActLaws.{kcall_stops, instruction_stops, instruction_ends}
use Rattle.exec.proofs.ExecuteLaws.{executed}
use mathlib.Core.Path.{refl, ap, ◌∙◌}
use Rattle.access_spec.specs.Journal.{journaled}
use Rattle.machine.specs.Status.{cpu}
use Rattle.exec_spec.specs.Execute.{traced}
use Rattle.run_spec.specs.Run.{is_kcall}
use Rattle.exec.proofs.attempt.act_on.Goals as goal

pub returns-then-stops : goal.returns-then-stops
returns-then-stops c = let s = c.args in
    kcall_stops s.confined (cpu s.r.now s.q.now) s.i s.n _ _ (c.is_kcall.ensures ∙ ap is_kcall c.action_of-a.ensures) refl (journaled s.m.now s.journal.now) s.r.now s.q.now c.if-stops.true

pub returns-then-x-ge-EXCEPTION : goal.returns-then-x-ge-EXCEPTION
returns-then-x-ge-EXCEPTION c = let s = c.args in
    instruction_stops s.confined (cpu s.r.now s.q.now) s.i s.n _ _ (c.is_kcall.ensures ∙ ap is_kcall c.action_of-a.ensures) refl (journaled s.m.now s.journal.now) _ _ _ _
    (executed (cpu s.r.now s.q.now) s.i s.n (journaled s.m.now s.journal.now) _ c.action_of-a.result c.action_of-a.ensures c.execute-x.ensures)
    c.if-stops.false c.if-x-ge-EXCEPTION.true

pub returns : goal.returns
returns c = let s = c.args in
    instruction_ends s.confined (cpu s.r.now s.q.now) s.i s.n _ _ (c.is_kcall.ensures ∙ ap is_kcall c.action_of-a.ensures) refl (journaled s.m.now s.journal.now) _ _ _ _
    (executed (cpu s.r.now s.q.now) s.i s.n (journaled s.m.now s.journal.now) _ c.action_of-a.result c.action_of-a.ensures c.execute-x.ensures)
    c.if-stops.false c.if-x-ge-EXCEPTION.false _ (c.class_of-class.ensures.0 ∙ ap traced c.action_of-a.ensures) c.class_of-class.ensures.1
