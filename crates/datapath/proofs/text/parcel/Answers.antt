use lib.Bits.{and_mask, mask_lt}
use Rattle.std.proofs.Common.{rules}
use Rattle.datapath.proofs.text.parcel.Goals as goal

pub overflow_cast-result : goal.overflow_cast-result
overflow_cast-result c = search (rules, mask_lt c.args.x 16)

pub returns : goal.returns
returns c = and_mask c.args.x 16
