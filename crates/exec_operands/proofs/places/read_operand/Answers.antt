use Rattle.exec_operands.proofs.ReadLaws.{operand_fault, operand_read}
use mathlib.Core.Path.{◌∙◌}
use Rattle.access_spec.specs.Journal.{journaled}
use Rattle.exec_operands.proofs.places.read_operand.Goals as goal

pub returns-then-a-ge-EXCEPTION : goal.returns-then-a-ge-EXCEPTION
returns-then-a-ge-EXCEPTION c = (operand_fault c.args.r.now _ c.args.q.now c.args.wide c.args.o _ (journaled c.args.m.now c.args.journal.now) _ c.locate_at-a.ensures.0 c.if-a-ge-EXCEPTION.true, c.locate_at-a.ensures.1)

pub returns-else-a-ge-EXCEPTION : goal.returns-else-a-ge-EXCEPTION
returns-else-a-ge-EXCEPTION c = (operand_read c.args.r.now _ c.args.q.now c.args.wide c.args.o _ (journaled c.args.m.now c.args.journal.now) _ c.locate_at-a.ensures.0 c.if-a-ge-EXCEPTION.false (c.locate_at-a.ensures.1 c.if-a-ge-EXCEPTION.false) _ c.low32.ensures _ _ _ c.read_at.ensures.0, λ h. c.read_at.ensures.1 h ∙ c.locate_at-a.ensures.1 c.if-a-ge-EXCEPTION.false)
