use Rattle.std.proofs.Common.{rules}
use Rattle.encode.specs.Parts.{dyadic_parcels}
use Rattle.encode.proofs.dyadic.dyadic_parcels.Goals as goal

pub returns : goal.returns
unfolding dyadic_parcels
returns c = search rules
