use Rattle.exec_flow.proofs.FlowLaws.{call_stopped, call_gone}
use Rattle.access_spec.specs.Journal.{journaled}
use Rattle.exec_flow.proofs.flow.call.Goals as goal

pub returns-then-x-ge-EXCEPTION : goal.returns-then-x-ge-EXCEPTION
returns-then-x-ge-EXCEPTION c = call_stopped c.args.r.now c.args.q.now c.args.mode c.args.v _ _ (journaled c.args.m.now c.args.journal.now) _ c.read_word32-x.ensures c.if-x-ge-EXCEPTION.true c.args.n

pub returns : goal.returns
returns c = call_gone c.args.r.now c.args.q.now c.args.mode c.args.v _ _ (journaled c.args.m.now c.args.journal.now) _ c.read_word32-x.ensures c.if-x-ge-EXCEPTION.false _ c.low32.ensures c.args.n _ c.call_to.ensures
