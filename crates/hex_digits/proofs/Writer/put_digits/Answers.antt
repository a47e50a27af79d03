use Rattle.hex_digits.proofs.DigitLaws.{length_digits}
use Rattle.hex_digits.proofs.OutputLaws.{put_whole, left_out}
use Rattle.std.proofs.Common.{sym}
use Rattle.hex_digits.proofs.Writer.put_digits.Goals as goal

pub returns-then-has_room-clause-text : goal.returns-then-has_room-clause-text
returns-then-has_room-clause-text c = put_whole _ _ _ _ _ (sym (length_digits c.args.count c.args.x)) c.has_room.ensures _ c.if-has_room.true c.store_digits.ensures

pub returns-else-has_room-clause-text : goal.returns-else-has_room-clause-text
returns-else-has_room-clause-text c = left_out _ _ _ _ _ (sym (length_digits c.args.count c.args.x)) c.has_room.ensures c.if-has_room.false
