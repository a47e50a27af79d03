use Rattle.records_conversion.proofs.BlockLaws.{converting_refused, converting_over, unrefused_more, line_refusal, none_refused}
use Rattle.std.proofs.Common.{◌≡◌, Err, ◌∙◌, rules}
use Rattle.records_conversion.proofs.blocks.convert_block.Goals as goal

pub returns-in_err-convert_line-clause-text : goal.returns-in_err-convert_line-clause-text
returns-in_err-convert_line-clause-text c = let e : c.from_residual.result ≡ Err c.in_err-convert_line.field-0.0 = search rules in
    rw e (converting_refused _ _ _ _ _ _ _ c.loop-to.invariant.0.converting c.loop-to-test.true _ _ c.in_err-convert_line.ensures.text)

pub returns-in_err-convert_line-clause-refusal : goal.returns-in_err-convert_line-clause-refusal
returns-in_err-convert_line-clause-refusal c = let e : c.from_residual.result ≡ Err c.in_err-convert_line.field-0.0 = search rules in
    rw e (line_refusal _ _ _ _ _ _ _ c.loop-to.invariant.0 c.loop-to-test.true _ c.in_err-convert_line.ensures.refusal)

pub loop-to-preserved : goal.loop-to-preserved
loop-to-preserved c = (unrefused_more _ _ _ _ _ _ _ c.loop-to.invariant.0 c.loop-to-test.true _ _ c.in_ok-convert_line.ensures.text c.in_ok-convert_line.ensures.refusal _ c.newline_from-to-in-loop-to.ensures, c.in_ok-convert_line.ensures.lent ∙ c.loop-to.invariant.1)

pub returns-clause-text : goal.returns-clause-text
returns-clause-text c = converting_over _ _ _ _ _ _ _ c.loop-to.invariant.0.converting c.loop-to-test.false

pub returns-clause-refusal : goal.returns-clause-refusal
returns-clause-refusal c = none_refused _ _ _ _ _ _ _ c.loop-to.invariant.0 c.loop-to-test.false
