use Rattle.board_lines.proofs.DigitLaws.{read_none, read_more, read_bad, read_all, both_ends}
use Rattle.std.proofs.Common.{arith}
use Rattle.board_lines.proofs.digits.all_digits.Goals as goal

pub returns-then-n-lt16 : goal.returns-then-n-lt16
returns-then-n-lt16 c = both_ends c.args.line.now _ _ c.if-n-lt8.false c.if-n-lt16.true c.eight_digits.ensures c.eight_digits-then-n-lt16.ensures

pub loop-i-init : goal.loop-i-init
loop-i-init c = read_none c.args.line.now

pub loop-i-preserved : goal.loop-i-preserved
loop-i-preserved c = read_more c.args.line.now 16 _ _ c.sixteen_digits.ensures c.loop-i.invariant (omega (arith, c.loop-i-test.true)) c.if-sixteen_digits.true

pub returns-else-sixteen_digits : goal.returns-else-sixteen_digits
returns-else-sixteen_digits c = read_bad c.args.line.now 16 c.loop-i.i _ c.sixteen_digits.ensures c.if-sixteen_digits.false

pub returns : goal.returns
returns c = read_all c.args.line.now 16 _ _ c.loop-i.invariant c.if-n-lt16.false c.loop-i-test.false c.sixteen_digits-2.ensures
