use Rattle.board_lines.proofs.FrameLaws.{no_length, no_digits, is_store, is_twelve, no_kind}
use Rattle.board_lines.proofs.frames.parse.Goals as goal

pub returns-then-not-is_length : goal.returns-then-not-is_length
returns-then-not-is_length c = no_length _ _ c.is_length.ensures c.if-not-is_length.true

pub returns-then-not-all_digits : goal.returns-then-not-all_digits
returns-then-not-all_digits c = no_digits _ _ c.is_length.ensures c.if-not-is_length.false _ c.all_digits.ensures c.if-not-all_digits.true

pub returns-then-kind-eq2 : goal.returns-then-kind-eq2
returns-then-kind-eq2 c = is_store _ _ c.is_length.ensures c.if-not-is_length.false _ c.all_digits.ensures c.if-not-all_digits.false _ c.byte_at-kind.ensures _ c.if-kind-eq2.true c.word_at.ensures

pub returns-then-n-eq12 : goal.returns-then-n-eq12
returns-then-n-eq12 c = is_twelve _ _ c.is_length.ensures c.if-not-is_length.false _ c.all_digits.ensures c.if-not-all_digits.false _ c.byte_at-kind.ensures _ c.if-kind-eq2.false c.if-n-eq12.true c.of_twelve.ensures

pub returns-else-n-eq12 : goal.returns-else-n-eq12
returns-else-n-eq12 c = no_kind _ _ c.is_length.ensures c.if-not-is_length.false _ c.all_digits.ensures c.if-not-all_digits.false _ c.byte_at-kind.ensures c.if-kind-eq2.false c.if-n-eq12.false
