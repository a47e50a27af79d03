use Rattle.exec_event_frames.proofs.SequenceLaws.{exception_stopped, exception_taken}
use Rattle.access_spec.specs.Journal.{journaled}
use Rattle.exec_event_frames.proofs.sequences.exception_sequence.Goals as goal

pub returns-then-x-ge-EXCEPTION : goal.returns-then-x-ge-EXCEPTION
returns-then-x-ge-EXCEPTION c = λ q. exception_stopped c.args.r.now q _ c.restored_csp.ensures c.args.e _ _ (journaled c.args.m.now c.args.journal.now) _ (c.push_frame-x.ensures q) c.if-x-ge-EXCEPTION.true

pub returns : goal.returns
returns c = λ q. exception_taken c.args.r.now q _ c.restored_csp.ensures c.args.e _ _ (journaled c.args.m.now c.args.journal.now) _ (c.push_frame-x.ensures q) c.if-x-ge-EXCEPTION.false _ (c.through_vector.ensures q)
