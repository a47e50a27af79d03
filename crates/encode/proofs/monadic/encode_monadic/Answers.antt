use Rattle.std.proofs.Common.{rules}
use Rattle.isa.specs.Encode.{encode_monadic}
use Rattle.encode.specs.Parts.{monadic_parcels}
use Rattle.encode.proofs.monadic.encode_monadic.Goals as goal

pub returns : goal.returns
unfolding encode_monadic monadic_parcels
returns c = search rules
