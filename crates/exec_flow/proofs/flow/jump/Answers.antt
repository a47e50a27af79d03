use Rattle.exec_flow.proofs.FlowLaws.{jump_stopped, jump_gone}
use Rattle.access_spec.specs.Journal.{journaled}
use Rattle.exec_flow.proofs.flow.jump.Goals as goal

pub returns-then-x-ge-EXCEPTION : goal.returns-then-x-ge-EXCEPTION
returns-then-x-ge-EXCEPTION c = jump_stopped c.args.r.now c.args.q.now c.args.mode c.args.v _ _ (journaled c.args.m.now c.args.journal.now) _ c.read_word32-x.ensures c.if-x-ge-EXCEPTION.true

pub returns : goal.returns
returns c = jump_gone c.args.r.now c.args.q.now c.args.mode c.args.v _ _ (journaled c.args.m.now c.args.journal.now) _ c.read_word32-x.ensures c.if-x-ge-EXCEPTION.false _ c.low32.ensures _ c.jumped.ensures
