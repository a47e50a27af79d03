use Rattle.board_lines.proofs.DigitLaws.{one_digit, next_digit}
use Rattle.std.proofs.Common.{arith}
use Rattle.board_lines.proofs.digits.eight_digits.Goals as goal

pub returns : goal.returns
returns c = let s = c.args.line.now in
    let i = c.args.i in
    let h = c.requires in
    next_digit s i 7 _ _ (omega (arith, h))
    (next_digit s i 6 _ _ (omega (arith, h))
    (next_digit s i 5 _ _ (omega (arith, h))
    (next_digit s i 4 _ _ (omega (arith, h))
    (next_digit s i 3 _ _ (omega (arith, h))
    (next_digit s i 2 _ _ (omega (arith, h))
    (next_digit s i 1 _ _ (omega (arith, h))
    (one_digit s i _ (omega (arith, h)) c.is_digit.ensures)
    c.is_digit-2.ensures)
    c.is_digit-3.ensures)
    c.is_digit-4.ensures)
    c.is_digit-5.ensures)
    c.is_digit-6.ensures)
    c.is_digit-7.ensures)
    c.is_digit-8.ensures
