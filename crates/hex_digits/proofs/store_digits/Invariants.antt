use Rattle.hex_digits.proofs.DigitLaws.{DigitsFrom}
use Rattle.hex_digits.proofs.store_digits.Given as goal

abbrev pub invariant-loop-i : goal.invariant-loop-i
invariant-loop-i l = DigitsFrom l.initial.out l.at l.count l.x l.i l.left l.out
