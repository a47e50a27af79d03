use Rattle.board_lines.proofs.AnswerLaws.{refused_put, refused_left}
use Rattle.board_lines.proofs.Printer.put_refused.Goals as goal

pub returns-then-has_room-clause-text : goal.returns-then-has_room-clause-text
returns-then-has_room-clause-text c = refused_put _ _ _ c.args.line c.has_room.ensures _ _ _ c.if-has_room.true c.put_refusal.ensures.text c.add_refusal.ensures

pub returns-else-has_room-clause-text : goal.returns-else-has_room-clause-text
returns-else-has_room-clause-text c = refused_left _ _ _ c.args.line c.has_room.ensures _ c.if-has_room.false
