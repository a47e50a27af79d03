use Rattle.run.proofs.TurnLaws.{turn_taken, turn_long}
use Rattle.run.proofs.turns.turn.Goals as goal

pub returns : goal.returns
returns c = (turn_taken c.args.level c.args.r.now c.args.q.now c.args.m.now c.args.journal.now c.requires (λ i. (c.slice_known-1.given i).fits) _ _ _ _ _ _ c.begin.ensures c.step-completed.ensures _ c.count_turn.ensures _ c.judge.ensures, turn_long c.args.level c.args.r.now c.args.q.now c.args.m.now c.args.journal.now c.requires (λ i. (c.slice_known-1.given i).fits) _ _ _ _ _ _ c.begin.ensures c.step-completed.ensures)
