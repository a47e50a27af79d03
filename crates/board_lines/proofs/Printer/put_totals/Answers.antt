use Rattle.board_lines.proofs.AnswerLaws.{totals_put, totals_left}
use Rattle.board_lines.proofs.Printer.put_totals.Goals as goal

pub returns-then-has_room-clause-text : goal.returns-then-has_room-clause-text
returns-then-has_room-clause-text c = totals_put _ _ c.args.self.now.tally c.has_room.ensures _ _ _ _ _ c.if-has_room.true c.put_digits.ensures.text c.put_digits-then-has_room.ensures.text c.put_digits-then-has_room-2.ensures.text c.put_digits-then-has_room-3.ensures.text c.put_byte.ensures.text

pub returns-else-has_room-clause-text : goal.returns-else-has_room-clause-text
returns-else-has_room-clause-text c = totals_left _ _ c.args.self.now.tally c.has_room.ensures c.if-has_room.false
