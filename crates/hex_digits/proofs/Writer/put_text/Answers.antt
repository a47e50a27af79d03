use Rattle.hex_digits.proofs.OutputLaws.{copied, left_out}
use Rattle.std.proofs.Common.{refl}
use Rattle.hex_digits.proofs.Writer.put_text.Goals as goal

pub returns-then-has_room-clause-text : goal.returns-then-has_room-clause-text
returns-then-has_room-clause-text c = copied _ _ _ _ _ _ c.has_room.ensures c.if-has_room.true c.copy_from_slice.ensures.after refl

pub returns-else-has_room-clause-text : goal.returns-else-has_room-clause-text
returns-else-has_room-clause-text c = left_out _ _ _ _ _ refl c.has_room.ensures c.if-has_room.false
