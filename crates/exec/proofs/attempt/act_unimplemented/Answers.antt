use Rattle.exec.proofs.ActLaws.{unimplemented_stops, sequence_stops, sequence_ends}
use Rattle.access_spec.specs.Journal.{journaled}
use Rattle.machine.specs.Status.{cpu}
use Rattle.exec.proofs.attempt.act_unimplemented.Goals as goal

pub returns-then-confined : goal.returns-then-confined
returns-then-confined c = unimplemented_stops c.args.confined (cpu c.args.r.now c.args.q.now) c.args.vector (journaled c.args.m.now c.args.journal.now) c.args.r.now c.args.q.now c.if-confined.true

pub returns-then-x-ge-EXCEPTION : goal.returns-then-x-ge-EXCEPTION
returns-then-x-ge-EXCEPTION c = sequence_stops c.args.confined (cpu c.args.r.now c.args.q.now) c.args.vector (journaled c.args.m.now c.args.journal.now) _ _ _ _ c.unimplemented_sequence-x.ensures c.if-confined.false c.if-x-ge-EXCEPTION.true

pub returns : goal.returns
returns c = sequence_ends c.args.confined (cpu c.args.r.now c.args.q.now) c.args.vector (journaled c.args.m.now c.args.journal.now) _ _ _ _ c.unimplemented_sequence-x.ensures c.if-confined.false c.if-x-ge-EXCEPTION.false
