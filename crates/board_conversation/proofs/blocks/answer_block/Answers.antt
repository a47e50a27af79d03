use Rattle.board_conversation.proofs.ExchangeLaws.{answering_none, answering_long, answering_more, answering_over}
use Rattle.std.proofs.Common.{refl, arith, rules}
use Rattle.board_conversation.proofs.blocks.answer_block.Goals as goal

pub loop-to-init : goal.loop-to-init
loop-to-init c = search (rules, answering_none)

pub returns-then-answer_line-clause-text : goal.returns-then-answer_line-clause-text
returns-then-answer_line-clause-text c = answering_long _ _ _ _ _ _ _ _ c.loop-to.invariant.0 c.loop-to-test.true _ _ _ c.answer_line.ensures.text c.if-answer_line.true

pub loop-to-smaller : goal.loop-to-smaller
loop-to-smaller c = omega (arith, c.loop-to.invariant.0.upto, c.loop-to.invariant.0.ends, c.loop-to-test.true)

pub loop-to-preserved : goal.loop-to-preserved
loop-to-preserved c = (answering_more _ _ _ _ _ _ _ _ c.loop-to.invariant.0 c.loop-to-test.true _ _ _ c.answer_line.ensures.text _ c.if-answer_line.false refl c.newline_from-to-in-loop-to.ensures, search rules, search rules)

pub returns-clause-text : goal.returns-clause-text
returns-clause-text c = search (rules, answering_over)
