use Rattle.exec_flow.proofs.FlowLaws.{accumulated_stopped, accumulated_gone}
use Rattle.access_spec.specs.Journal.{journaled}
use Rattle.exec_flow.proofs.flow.load_accumulator.Goals as goal

pub returns-then-x-ge-EXCEPTION : goal.returns-then-x-ge-EXCEPTION
returns-then-x-ge-EXCEPTION c = accumulated_stopped c.args.r.now c.args.q.now _ _ _ _ _ (journaled c.args.m.now c.args.journal.now) _ c.store-x.ensures c.args.n c.stack_address-s.ensures c.if-x-ge-EXCEPTION.true

pub returns : goal.returns
returns c = accumulated_gone c.args.r.now c.args.q.now _ _ _ _ _ (journaled c.args.m.now c.args.journal.now) _ c.store-x.ensures c.args.n c.stack_address-s.ensures c.if-x-ge-EXCEPTION.false _ c.advance_pc.ensures
