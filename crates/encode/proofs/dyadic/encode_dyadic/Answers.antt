use Rattle.std.proofs.Common.{rules}
use Rattle.isa.specs.Encode.{encode_dyadic}
use Rattle.encode.specs.Parts.{dyadic_parcels}
use Rattle.encode.proofs.dyadic.encode_dyadic.Goals as goal

pub returns : goal.returns
unfolding encode_dyadic dyadic_parcels
returns c = search rules
