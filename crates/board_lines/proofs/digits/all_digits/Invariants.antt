use Rattle.board_lines.proofs.DigitLaws.{Read}
use Rattle.std.proofs.Common.{◌-◌}
use Rattle.board_lines.proofs.digits.all_digits.Given as goal

abbrev pub invariant-loop-i : goal.invariant-loop-i
invariant-loop-i l = Read l.line l.i

abbrev pub decreases-loop-i : goal.decreases-loop-i
decreases-loop-i l = l.n - l.i
