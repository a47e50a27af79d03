use Rattle.exec_dyadic.proofs.FindLaws.{source_fault, both_found}
use Rattle.exec_operands.specs.Code.{place_at}
use mathlib.Core.Path.{◌∙◌}
use Rattle.access_spec.specs.Journal.{journaled}
use Rattle.exec_dyadic.proofs.finding.find.Goals as goal

pub returns-then-x-ge-EXCEPTION : goal.returns-then-x-ge-EXCEPTION
returns-then-x-ge-EXCEPTION c = (λ f. source_fault c.args.r.now _ c.args.q.now c.args.wide c.args.s c.args.d _ (journaled c.args.m.now c.args.journal.now) _ c.read_operand-x.ensures.0 f (λ a. f 0 (place_at c.args.d a)) c.if-x-ge-EXCEPTION.true, c.read_operand-x.ensures.1)

pub returns-else-x-ge-EXCEPTION : goal.returns-else-x-ge-EXCEPTION
returns-else-x-ge-EXCEPTION c = (λ f. both_found c.args.r.now _ c.args.q.now c.args.wide c.args.s c.args.d _ (journaled c.args.m.now c.args.journal.now) _ c.read_operand-x.ensures.0 f c.if-x-ge-EXCEPTION.false (c.read_operand-x.ensures.1 c.if-x-ge-EXCEPTION.false) _ c.low32.ensures _ _ _ c.locate_at-a.ensures.0, λ h. c.locate_at-a.ensures.1 h ∙ (c.read_operand-x.ensures.1 c.if-x-ge-EXCEPTION.false))
