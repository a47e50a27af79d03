use Rattle.exec_event_frames.proofs.SequenceLaws.{saved_data, saved_frame}
use Rattle.access_spec.specs.Journal.{journaled}
use Rattle.exec_event_frames.proofs.sequences.save_pc.Goals as goal

pub returns-then-sp_current : goal.returns-then-sp_current
returns-then-sp_current c = saved_data c.args.r.now c.args.q.now (journaled c.args.m.now c.args.journal.now) _ c.sp_current.ensures _ c.if-sp_current.true c.store.ensures

pub returns-else-sp_current : goal.returns-else-sp_current
returns-else-sp_current c = saved_frame c.args.r.now c.args.q.now (journaled c.args.m.now c.args.journal.now) _ c.sp_current.ensures _ c.if-sp_current.false (c.store_pc.ensures _)
