use Rattle.exec_event_frames.proofs.KernelLaws.{kcall_first, kcall_second, kcall_taken}
use Rattle.access_spec.specs.Journal.{journaled}
use Rattle.exec_event_frames.proofs.kernel.kcall.Goals as goal

pub returns-then-x-ge-EXCEPTION : goal.returns-then-x-ge-EXCEPTION
returns-then-x-ge-EXCEPTION c = kcall_first c.args.r.now c.args.q.now c.args.mode c.args.v c.args.n _ _ (journaled c.args.m.now c.args.journal.now) _ c.read_word32-x.ensures c.if-x-ge-EXCEPTION.true

pub returns-then-y-ge-EXCEPTION : goal.returns-then-y-ge-EXCEPTION
returns-then-y-ge-EXCEPTION c = kcall_second c.args.r.now c.args.q.now c.args.mode c.args.v c.args.n _ _ (journaled c.args.m.now c.args.journal.now) _ c.read_word32-x.ensures c.if-x-ge-EXCEPTION.false _ _ c.low32-a.ensures c.next_pc-p.ensures _ _ _ (c.push_frame-y.ensures _) c.if-y-ge-EXCEPTION.true

pub returns : goal.returns
returns c = kcall_taken c.args.r.now c.args.q.now c.args.mode c.args.v c.args.n _ _ (journaled c.args.m.now c.args.journal.now) _ c.read_word32-x.ensures c.if-x-ge-EXCEPTION.false _ _ c.low32-a.ensures c.next_pc-p.ensures _ _ _ (c.push_frame-y.ensures _) c.if-y-ge-EXCEPTION.false _ (c.through_vector.ensures _)
