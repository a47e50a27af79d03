use Rattle.exec_flow.proofs.FlowLaws.{return_stopped, return_gone}
use Rattle.access_spec.specs.Journal.{journaled}
use Rattle.exec_flow.proofs.flow.return_from.Goals as goal

pub returns-then-x-ge-EXCEPTION : goal.returns-then-x-ge-EXCEPTION
returns-then-x-ge-EXCEPTION c = return_stopped c.args.r.now c.args.q.now c.args.v _ _ _ (journaled c.args.m.now c.args.journal.now) _ c.stack_address-a.ensures c.load-x.ensures c.if-x-ge-EXCEPTION.true

pub returns : goal.returns
returns c = return_gone c.args.r.now c.args.q.now c.args.v _ _ _ (journaled c.args.m.now c.args.journal.now) _ c.stack_address-a.ensures c.load-x.ensures c.if-x-ge-EXCEPTION.false _ c.released.ensures _ c.low32.ensures _ c.jumped.ensures
