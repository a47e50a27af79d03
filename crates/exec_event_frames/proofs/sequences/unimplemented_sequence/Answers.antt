use Rattle.exec_event_frames.proofs.SequenceLaws.{save_stopped, unimplemented_stopped, unimplemented_taken}
use Rattle.access_spec.specs.Journal.{journaled}
use Rattle.exec_event_frames.proofs.sequences.unimplemented_sequence.Goals as goal

pub returns-then-x-ge-EXCEPTION : goal.returns-then-x-ge-EXCEPTION
returns-then-x-ge-EXCEPTION c = save_stopped c.args.r.now c.args.q.now (journaled c.args.m.now c.args.journal.now) c.args.vector _ _ _ _ c.save_pc-x.ensures c.if-x-ge-EXCEPTION.true

pub returns-then-y-ge-EXCEPTION : goal.returns-then-y-ge-EXCEPTION
returns-then-y-ge-EXCEPTION c = unimplemented_stopped c.args.r.now c.args.q.now (journaled c.args.m.now c.args.journal.now) c.args.vector _ _ _ _ c.save_pc-x.ensures c.if-x-ge-EXCEPTION.false _ c.plus-i.ensures _ _ c.read_frame-y.ensures c.if-y-ge-EXCEPTION.true

pub returns : goal.returns
returns c = unimplemented_taken c.args.r.now c.args.q.now (journaled c.args.m.now c.args.journal.now) c.args.vector _ _ _ _ c.save_pc-x.ensures c.if-x-ge-EXCEPTION.false _ c.plus-i.ensures _ _ c.read_frame-y.ensures c.if-y-ge-EXCEPTION.false _ c.low32-a.ensures _ c.jumped.ensures
