use Rattle.std.proofs.Common.{rules}
use Rattle.isa.specs.Decode.{decode_monadic}
use Rattle.decode.proofs.monadic.decode_monadic.Goals as goal

pub returns : goal.returns
unfolding decode_monadic
returns c = search rules
