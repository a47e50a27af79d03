use Rattle.hex_digits.proofs.DigitLaws.{digit_at}
use Rattle.board_lines.proofs.DigitLaws.{number_2}
use Rattle.std.proofs.Common.{◌+◌, sym, ◌∙◌, arith}
use Rattle.board_lines.proofs.digits.byte_at.Goals as goal

pub returns : goal.returns
returns c = let s = c.args.line.now in
    let i = c.args.i in
    let p = c.requires in
    c.byte_of_digits.ensures.digits (digit_at s i p.1 (omega (arith, p.0))) (digit_at s (i + 1) p.1 (omega (arith, p.0))) ∙ sym (number_2 s i)
