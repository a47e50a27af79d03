use Rattle.std.proofs.Common.{rules}
use Rattle.isa.specs.Decode.{decode_dyadic}
use Rattle.decode.proofs.dyadic.decode_dyadic.Goals as goal

pub returns : goal.returns
unfolding decode_dyadic
returns c = search rules
