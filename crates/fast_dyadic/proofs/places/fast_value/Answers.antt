use Rattle.fast_dyadic.proofs.PlaceLaws.{value_constant, value_read}
use native.Mathlib.Omega.{arith}
use Rattle.std.proofs.Common.{rules}
use Rattle.fast_dyadic.proofs.places.fast_value.Goals as goal

pub returns-then-is_constant : goal.returns-then-is_constant
returns-then-is_constant c = λ h. search (rules, value_constant)

pub returns-then-x-ge-NOT_TAKEN : goal.returns-then-x-ge-NOT_TAKEN
returns-then-x-ge-NOT_TAKEN c = λ h. absurd (omega (arith, h, c.if-x-ge-NOT_TAKEN.true))

pub returns : goal.returns
returns c = λ h. search (rules, value_read, c.fast_read-x.ensures c.if-x-ge-NOT_TAKEN.false)
