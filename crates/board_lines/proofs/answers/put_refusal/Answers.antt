use Rattle.std.proofs.Common.{refl}
use Rattle.board_lines.proofs.AnswerLaws.{refusal_copied, refusal_left}
use Rattle.board_lines.proofs.answers.put_refusal.Goals as goal

pub returns-then-has_room-clause-text : goal.returns-then-has_room-clause-text
returns-then-has_room-clause-text c = refusal_copied _ _ _ _ c.has_room.ensures _ _ c.if-has_room.true c.write_refused.ensures refl

pub returns-else-has_room-clause-text : goal.returns-else-has_room-clause-text
returns-else-has_room-clause-text c = refusal_left _ _ _ c.args.line c.has_room.ensures c.if-has_room.false
