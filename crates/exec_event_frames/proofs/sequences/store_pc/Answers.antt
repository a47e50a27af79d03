use Rattle.exec_event_frames.proofs.SequenceLaws.{pc_stopped, pc_stored}
use Rattle.access_spec.specs.Journal.{journaled}
use Rattle.exec_event_frames.proofs.sequences.store_pc.Goals as goal

pub returns-then-x-ge-EXCEPTION : goal.returns-then-x-ge-EXCEPTION
returns-then-x-ge-EXCEPTION c = λ q. pc_stopped c.args.r.now q (journaled c.args.m.now c.args.journal.now) _ _ c.write_frame-x.ensures c.if-x-ge-EXCEPTION.true

pub returns : goal.returns
returns c = λ q. pc_stored c.args.r.now q (journaled c.args.m.now c.args.journal.now) _ _ c.write_frame-x.ensures c.if-x-ge-EXCEPTION.false
