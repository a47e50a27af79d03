use Rattle.exec_flow.proofs.WordLaws.{pointer_faulted, pointer_followed}
use Rattle.access_spec.specs.Journal.{journaled}
use Rattle.exec_flow.proofs.words.read_through.Goals as goal

pub returns-then-x-ge-EXCEPTION : goal.returns-then-x-ge-EXCEPTION
returns-then-x-ge-EXCEPTION c = pointer_faulted c.args.r.now c.args.q.now c.args.a _ _ (journaled c.args.m.now c.args.journal.now) _ c.load-x.ensures c.if-x-ge-EXCEPTION.true

pub returns : goal.returns
returns c = pointer_followed c.args.r.now c.args.q.now c.args.a _ _ (journaled c.args.m.now c.args.journal.now) _ c.load-x.ensures c.if-x-ge-EXCEPTION.false _ c.low32.ensures _ _ _ c.load.ensures
