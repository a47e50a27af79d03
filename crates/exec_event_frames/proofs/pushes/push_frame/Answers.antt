use Rattle.exec_event_frames.proofs.PushLaws.{third_stopped, third_pushed}
use Rattle.access_spec.specs.Journal.{journaled}
use Rattle.exec_event_frames.proofs.pushes.push_frame.Goals as goal

pub returns-then-x-ge-EXCEPTION : goal.returns-then-x-ge-EXCEPTION
returns-then-x-ge-EXCEPTION c = λ q. third_stopped c.args.r.now q c.args.v c.args.a _ c.minus-i.ensures _ (journaled c.args.m.now c.args.journal.now) _ c.write_frame-x.ensures c.if-x-ge-EXCEPTION.true

pub returns : goal.returns
returns c = λ q. third_pushed c.args.r.now q c.args.v c.args.a _ c.minus-i.ensures _ (journaled c.args.m.now c.args.journal.now) _ c.write_frame-x.ensures c.if-x-ge-EXCEPTION.false _ (c.push_pair.ensures q)
