use Rattle.exec_event_frames.proofs.PushLaws.{pair_first, pair_second, pair_pushed}
use Rattle.access_spec.specs.Journal.{journaled}
use Rattle.exec_event_frames.proofs.pushes.push_pair.Goals as goal

pub returns-then-x-ge-EXCEPTION : goal.returns-then-x-ge-EXCEPTION
returns-then-x-ge-EXCEPTION c = λ q. pair_first c.args.r.now q c.args.a _ c.minus-i.ensures _ (journaled c.args.m.now c.args.journal.now) _ c.write_frame-x.ensures c.if-x-ge-EXCEPTION.true

pub returns-then-y-ge-EXCEPTION : goal.returns-then-y-ge-EXCEPTION
returns-then-y-ge-EXCEPTION c = λ q. pair_second c.args.r.now q c.args.a _ c.minus-i.ensures _ (journaled c.args.m.now c.args.journal.now) _ c.write_frame-x.ensures c.if-x-ge-EXCEPTION.false _ c.minus-j.ensures _ _ c.write_frame-y.ensures c.if-y-ge-EXCEPTION.true

pub returns : goal.returns
returns c = λ q. pair_pushed c.args.r.now q c.args.a _ c.minus-i.ensures _ (journaled c.args.m.now c.args.journal.now) _ c.write_frame-x.ensures c.if-x-ge-EXCEPTION.false _ c.minus-j.ensures _ _ c.write_frame-y.ensures c.if-y-ge-EXCEPTION.false _ c.pushed.ensures
