use Rattle.exec_operands.proofs.ReadLaws.{expanded_fault, expanded_read}
use Rattle.access_spec.specs.Journal.{journaled}
use Rattle.exec_operands.proofs.places.read_expanded.Goals as goal

pub returns-then-x-ge-EXCEPTION : goal.returns-then-x-ge-EXCEPTION
returns-then-x-ge-EXCEPTION c = (expanded_fault c.args.r.now _ c.args.q.now c.args.mode c.args.a _ _ c.width_of.ensures (journaled c.args.m.now c.args.journal.now) _ c.load-x.ensures.0 c.if-x-ge-EXCEPTION.true, c.load-x.ensures.1)

pub returns-else-x-ge-EXCEPTION : goal.returns-else-x-ge-EXCEPTION
returns-else-x-ge-EXCEPTION c = (expanded_read c.args.r.now _ c.args.q.now c.args.mode c.args.a _ _ c.width_of.ensures (journaled c.args.m.now c.args.journal.now) _ c.load-x.ensures.0 c.if-x-ge-EXCEPTION.false _ _ _ c.low32.ensures c.expand.ensures c.good.ensures, λ _. c.load-x.ensures.1 c.if-x-ge-EXCEPTION.false)
