use Rattle.exec_event_frames.proofs.PushLaws.{vector_stopped, vector_taken}
use Rattle.access_spec.specs.Journal.{journaled}
use Rattle.exec_event_frames.proofs.pushes.through_vector.Goals as goal

pub returns-then-x-ge-EXCEPTION : goal.returns-then-x-ge-EXCEPTION
returns-then-x-ge-EXCEPTION c = λ q. vector_stopped c.args.r.now q c.args.offset _ c.plus-i.ensures _ (journaled c.args.m.now c.args.journal.now) _ c.read_frame-x.ensures c.if-x-ge-EXCEPTION.true

pub returns : goal.returns
returns c = λ q. vector_taken c.args.r.now q c.args.offset _ c.plus-i.ensures _ (journaled c.args.m.now c.args.journal.now) _ c.read_frame-x.ensures c.if-x-ge-EXCEPTION.false _ c.low32-a.ensures _ c.vectored.ensures
