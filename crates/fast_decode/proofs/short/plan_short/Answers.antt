use Rattle.std.proofs.Common.{rules}
use Rattle.isa.specs.Decode.{decode_short}
use Rattle.fast_decode.proofs.short.plan_short.Goals as goal

pub returns : goal.returns
unfolding decode_short
returns c = search rules
