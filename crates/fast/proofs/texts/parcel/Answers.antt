use mathlib.Core.Path.{◌∙◌}
use lib.Bits.{and_mask, mask_lt}
use Rattle.fast.proofs.TextLaws.{two_bytes}
use Rattle.std.proofs.Common.{rules}
use Rattle.fast.proofs.texts.parcel.Goals as goal

pub overflow_cast-result : goal.overflow_cast-result
overflow_cast-result c = search (rules, mask_lt c.number2.result 16)

pub returns : goal.returns
returns c = and_mask c.number2.result 16 ∙ two_bytes c.args.m.now c.args.i c.number2.result c.number2.ensures
