use mathlib.Core.Path.{refl}
use Rattle.run.proofs.TurnLaws.{begun_long, confined_event, confined_long, confined_settled}
use Rattle.run.proofs.turns.confined_turn.Goals as goal

pub returns-then-due-ne0 : goal.returns-then-due-ne0
returns-then-due-ne0 c = (confined_event c.args.level c.args.r.now c.args.q.now c.args.m.now _ c.looked.ensures _ c.due_code-due.ensures c.if-due-ne0.true _ refl, begun_long c.args.m.now c.args.journal.now c.requires _ c.begin.ensures)

pub returns : goal.returns
returns c = (confined_settled c.args.level c.args.r.now c.args.q.now c.args.m.now _ c.looked.ensures _ c.due_code-due.ensures c.if-due-ne0.false c.args.journal.now c.requires (λ i. (c.slice_known-1.given i).fits) _ _ _ _ _ _ c.begin.ensures c.attempt-x.ensures _ _ c.end_attempt-y.result c.end_attempt-y.ensures _ c.judge.ensures, confined_long c.args.level c.args.r.now c.args.q.now c.args.m.now _ c.looked.ensures _ c.due_code-due.ensures c.if-due-ne0.false c.args.journal.now c.requires (λ i. (c.slice_known-1.given i).fits) _ _ _ _ _ _ c.begin.ensures c.attempt-x.ensures)
