use Rattle.std.proofs.Common.{rules}
use Rattle.isa.specs.Decode.{decode_short}
use Rattle.decode.proofs.short.decode_short.Goals as goal

pub returns : goal.returns
unfolding decode_short
returns c = search rules
