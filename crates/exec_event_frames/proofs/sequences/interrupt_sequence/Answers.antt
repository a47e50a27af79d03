use Rattle.exec_event_frames.proofs.SequenceLaws.{interrupt_stopped, interrupt_taken}
use Rattle.access_spec.specs.Journal.{journaled}
use Rattle.exec_event_frames.proofs.sequences.interrupt_sequence.Goals as goal

pub returns-then-x-ge-EXCEPTION : goal.returns-then-x-ge-EXCEPTION
returns-then-x-ge-EXCEPTION c = λ q. interrupt_stopped c.args.r.now q _ c.restored_csp.ensures c.args.vector _ _ (journaled c.args.m.now c.args.journal.now) _ (c.push_pair-x.ensures q) c.if-x-ge-EXCEPTION.true

pub returns : goal.returns
returns c = λ q. interrupt_taken c.args.r.now q _ c.restored_csp.ensures c.args.vector _ _ (journaled c.args.m.now c.args.journal.now) _ (c.push_pair-x.ensures q) c.if-x-ge-EXCEPTION.false _ (c.through_vector.ensures q)
