use Rattle.exec_stack.proofs.ReturnLaws.{fill_on, fill_off, fill_left}
use Rattle.access_spec.specs.Journal.{journaled}
use Rattle.exec_stack.proofs.returns.cret_fill.Goals as goal

pub returns-then-bit-2 : goal.returns-then-bit-2
returns-then-bit-2 c = fill_on c.args.r.now c.args.q.now c.args.w c.args.p (journaled c.args.m.now c.args.journal.now) _ c.unreserved-t.ensures _ c.bit.ensures c.if-bit.true _ c.bit-then-bit.ensures c.if-bit-2.true _ c.cret_caught.ensures

pub returns-else-bit-2 : goal.returns-else-bit-2
returns-else-bit-2 c = fill_off c.args.r.now c.args.q.now c.args.w c.args.p (journaled c.args.m.now c.args.journal.now) _ c.unreserved-t.ensures _ c.bit.ensures c.if-bit.true _ c.bit-then-bit.ensures c.if-bit-2.false

pub returns-else-bit : goal.returns-else-bit
returns-else-bit c = fill_left c.args.r.now c.args.q.now c.args.w c.args.p (journaled c.args.m.now c.args.journal.now) _ c.unreserved-t.ensures _ c.bit.ensures c.if-bit.false
