use Rattle.records_lines.proofs.StoreLaws.{record_put, record_left}
use Rattle.std.proofs.Common.{◌∙◌}
use Rattle.records_lines.proofs.frames.put_record.Goals as goal

pub returns-then-has_room-clause-text : goal.returns-then-has_room-clause-text
returns-then-has_room-clause-text c = record_put _ c.args.frame.now c.requires.0 _ c.has_room.ensures _ _ _ _ _ _ _ c.if-has_room.true c.put_text.ensures.text c.from.ensures c.put_digits.ensures.text c.put_text-then-has_room.ensures.text (c.from-then-has_room.ensures ∙ c.checksum.ensures) c.put_digits-then-has_room.ensures.text c.put_byte.ensures.text

pub returns-else-has_room-clause-text : goal.returns-else-has_room-clause-text
returns-else-has_room-clause-text c = record_left _ c.args.frame.now c.requires.0 _ c.has_room.ensures c.if-has_room.false
