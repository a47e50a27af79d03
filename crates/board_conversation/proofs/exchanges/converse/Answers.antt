use Rattle.board_conversation.proofs.PartLaws.{rest_within, exchange_more, exchange_last}
use Rattle.lines.proofs.CarryLaws.{least_is}
use Rattle.std.proofs.Common.{arith}
use Rattle.board_conversation.proofs.exchanges.converse.Goals as goal

pub overflow_add-from : goal.overflow_add-from
overflow_add-from c = let w = rest_within _ _ _ _ _ (least_is _ _ _ c.min-e.ensures) (least_is _ _ _ c.min-f.ensures) _ _ _ _ _ _ c.answer_block-t.ensures.text in
    omega (arith, w)

pub returns-then-t-clause-text : goal.returns-then-t-clause-text
returns-then-t-clause-text c = exchange_more _ _ _ _ _ (least_is _ _ _ c.min-e.ensures) (least_is _ _ _ c.min-f.ensures) _ _ _ _ _ _ c.answer_block-t.ensures.text c.if-t.true

pub returns-clause-text : goal.returns-clause-text
returns-clause-text c = exchange_last _ _ _ _ _ (least_is _ _ _ c.min-e.ensures) (least_is _ _ _ c.min-f.ensures) _ _ _ _ _ _ c.answer_block-t.ensures.text c.carry.result _ c.if-t.false c.carry.ensures
