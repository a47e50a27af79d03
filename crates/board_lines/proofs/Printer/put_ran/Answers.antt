use Rattle.std.proofs.Common.{refl}
use Rattle.board_lines.proofs.AnswerLaws.{ran_put, ran_left}
use Rattle.board_lines.proofs.Printer.put_ran.Goals as goal

pub returns-then-has_room-clause-text : goal.returns-then-has_room-clause-text
returns-then-has_room-clause-text c = ran_put _ _ _ _ _ _ _ _ c.has_room.ensures _ _ _ c.if-has_room.true c.write_ran.ensures refl c.add_run.ensures

pub returns-else-has_room-clause-text : goal.returns-else-has_room-clause-text
returns-else-has_room-clause-text c = let s = c.args in
    ran_left _ _ _ s.steps s.stop s.code s.pc s.psw c.has_room.ensures c.if-has_room.false
