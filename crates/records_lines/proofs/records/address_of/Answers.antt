use Rattle.std.proofs.Common.{◌∙◌, arith}
use Rattle.hex_digits.proofs.DigitLaws.{digit_at}
use Rattle.records_lines.proofs.SumLaws.{addressing_more, addressing_fits}
use Rattle.records_lines.proofs.records.address_of.Goals as goal

pub overflow_mul-address : goal.overflow_mul-address
overflow_mul-address c = let f = addressing_fits _ _ _ c.loop-digit.invariant c.loop-digit-test.true c.requires.0 in omega (arith, f)

pub overflow_add-address : goal.overflow_add-address
overflow_add-address c = let f = addressing_fits _ _ _ c.loop-digit.invariant c.loop-digit-test.true c.requires.0 in
    let d = c.number_of.ensures.digit (digit_at _ _ c.requires.1 c.loop-digit-test.true) in
    omega (arith, f, d.1, c.from.ensures)

pub loop-digit-preserved : goal.loop-digit-preserved
loop-digit-preserved c = let d = c.number_of.ensures.digit (digit_at _ _ c.requires.1 c.loop-digit-test.true) in
    addressing_more _ _ _ c.loop-digit.invariant _ c.loop-digit-test.true (c.from.ensures ∙ d.0)
