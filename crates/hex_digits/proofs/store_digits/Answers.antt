use Rattle.hex_digits.proofs.DigitLaws.{no_digits, another_digit, every_digit}
use Rattle.std.proofs.Common.{rules}
use Rattle.hex_digits.proofs.store_digits.Goals as goal

pub loop-i-init : goal.loop-i-init
loop-i-init c = search (rules, no_digits)

pub loop-i-preserved : goal.loop-i-preserved
loop-i-preserved c = search (rules, another_digit)

pub returns : goal.returns
returns c = search (rules, every_digit)
