use Rattle.fast_dyadic.proofs.PlaceLaws.{address_absolute, address_offset, address_indirect, address_constant}
use Rattle.std.proofs.Common.{rules}
use Rattle.fast_dyadic.proofs.places.fast_address.Goals as goal

pub returns-in-Absolute : goal.returns-in-Absolute
returns-in-Absolute c = λ h. search (rules, address_absolute)

pub returns-in-Offset : goal.returns-in-Offset
returns-in-Offset c = λ h. search (rules, address_offset)

pub returns-in-Indirect : goal.returns-in-Indirect
returns-in-Indirect c = λ h. search (rules, address_indirect, c.fast_read.ensures h)

pub returns-in-Constant : goal.returns-in-Constant
returns-in-Constant c = λ h. search (rules, address_constant)
