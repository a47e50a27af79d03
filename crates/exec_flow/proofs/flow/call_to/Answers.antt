use Rattle.exec_flow.proofs.FlowLaws.{called_stopped, called_gone}
use Rattle.access_spec.specs.Journal.{journaled}
use Rattle.exec_flow.proofs.flow.call_to.Goals as goal

pub returns-then-x-ge-EXCEPTION : goal.returns-then-x-ge-EXCEPTION
returns-then-x-ge-EXCEPTION c = called_stopped c.args.r.now c.args.q.now _ _ _ _ _ (journaled c.args.m.now c.args.journal.now) _ c.store-x.ensures c.args.a c.args.n c.stack_pointer-s.ensures c.next_pc-p.ensures c.if-x-ge-EXCEPTION.true

pub returns : goal.returns
returns c = called_gone c.args.r.now c.args.q.now _ _ _ _ _ (journaled c.args.m.now c.args.journal.now) _ c.store-x.ensures c.args.a c.args.n c.stack_pointer-s.ensures c.next_pc-p.ensures c.if-x-ge-EXCEPTION.false _ c.jumped.ensures
