use Rattle.board_conversation.proofs.AnswerLaws.{some_frame, answered_set, answered_store, answered_run, answered_confined, answered_bad}
use Rattle.board_conversation.proofs.answers.answer_frame.Goals as goal

pub returns-in-Some-Set-clause-text : goal.returns-in-Some-Set-clause-text
returns-in-Some-Set-clause-text c = answered_set _ _ _ _ _ _ _ _ _ _ _ _ (some_frame _ _ _ c.in-Some-Set.is (rw c.in-Some-Set.is at c.in-Some-Set.field-0-is)) c.set_register.ensures c.put_unless_done.ensures.text

pub returns-in-Some-Store-clause-text : goal.returns-in-Some-Store-clause-text
returns-in-Some-Store-clause-text c = answered_store _ _ _ _ _ _ _ _ _ _ _ (some_frame _ _ _ c.in-Some-Store.is (rw c.in-Some-Store.is at c.in-Some-Store.field-0-is)) c.store.ensures c.put_unless_done-in-Some-Store.ensures.text

pub returns-in-Some-Run-clause-text : goal.returns-in-Some-Run-clause-text
returns-in-Some-Run-clause-text c = answered_run _ _ _ _ _ _ _ _ _ _ (some_frame _ _ _ c.in-Some-Run.is (rw c.in-Some-Run.is at c.in-Some-Run.field-0-is)) c.answer_run.ensures.text

pub returns-in-Some-Confined-clause-text : goal.returns-in-Some-Confined-clause-text
returns-in-Some-Confined-clause-text c = answered_confined _ _ _ _ _ _ _ _ _ _ (some_frame _ _ _ c.in-Some-Confined.is (rw c.in-Some-Confined.is at c.in-Some-Confined.field-0-is)) c.answer_run-in-Some-Confined.ensures.text

pub returns-in-None-clause-text : goal.returns-in-None-clause-text
returns-in-None-clause-text c = answered_bad _ _ _ _ _ _ _ _ c.in-None.is (rw c.number.ensures at c.put_refused.ensures.text)
