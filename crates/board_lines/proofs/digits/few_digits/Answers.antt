use Rattle.board_lines.proofs.DigitLaws.{each_digit}
use Rattle.std.proofs.Common.{rules}
use Rattle.board_lines.proofs.digits.few_digits.Goals as goal

pub returns : goal.returns
returns c = each_digit c.args.line.now c.all.result (search rules)
