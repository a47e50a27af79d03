use Rattle.exec_event_frames.proofs.KernelLaws.{kret_first, kret_second, kret_done}
use Rattle.access_spec.specs.Journal.{journaled}
use Rattle.exec_event_frames.proofs.kernel.kret.Goals as goal

pub returns-then-x-ge-EXCEPTION : goal.returns-then-x-ge-EXCEPTION
returns-then-x-ge-EXCEPTION c = λ q. kret_first c.args.r.now q _ c.plus-i.ensures _ (journaled c.args.m.now c.args.journal.now) _ c.read_frame-x.ensures c.if-x-ge-EXCEPTION.true

pub returns-then-y-ge-EXCEPTION : goal.returns-then-y-ge-EXCEPTION
returns-then-y-ge-EXCEPTION c = λ q. kret_second c.args.r.now q _ c.plus-i.ensures _ (journaled c.args.m.now c.args.journal.now) _ c.read_frame-x.ensures c.if-x-ge-EXCEPTION.false _ c.plus-j.ensures _ _ c.read_frame-y.ensures c.if-y-ge-EXCEPTION.true

pub returns : goal.returns
returns c = λ q. kret_done c.args.r.now q _ c.plus-i.ensures _ (journaled c.args.m.now c.args.journal.now) _ c.read_frame-x.ensures c.if-x-ge-EXCEPTION.false _ c.plus-j.ensures _ _ c.read_frame-y.ensures c.if-y-ge-EXCEPTION.false _ _ c.low32-a.ensures c.low32-p.ensures _ c.returned.ensures
