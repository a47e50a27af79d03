use Rattle.exec.proofs.AttemptLaws.{answer_dispatched, answer_illegal, none_dispatched, none_legal}
use mathlib.Core.Path.{ap}
use Rattle.std.proofs.Common.{rules}
use Rattle.step_spec.specs.Step.{dispatch}
use Rattle.access_spec.specs.Journal.{journaled}
use Rattle.machine.specs.Status.{cpu}
use Rattle.exec.proofs.attempt.act_on_answer.Goals as goal
use Rattle.isa.specs.Answers.{Decoded}

pub returns-in-Ok : goal.returns-in-Ok
returns-in-Ok c = let s = c.args in
    answer_dispatched s.confined (cpu s.r.now s.q.now) s.a (journaled s.m.now s.journal.now) _ _
    (ap (λ (x : Decoded). dispatch (cpu s.r.now s.q.now) x) c.in-Ok.is) c.act_on.ensures

pub returns-in-Err-Unimplemented : goal.returns-in-Err-Unimplemented
returns-in-Err-Unimplemented c = let s = c.args in
    answer_dispatched s.confined (cpu s.r.now s.q.now) s.a (journaled s.m.now s.journal.now) _ _
    (search (rules, none_dispatched)) c.act_unimplemented.ensures

pub returns-in-Err-Illegal : goal.returns-in-Err-Illegal
returns-in-Err-Illegal c = let s = c.args in
    answer_illegal s.confined s.r.now s.q.now s.a (journaled s.m.now s.journal.now) _ c.raised.ensures
    (search (rules, none_legal))
