use Rattle.std.proofs.Common.{rules}
use Rattle.encode.specs.Parts.{monadic_parcels}
use Rattle.encode.proofs.monadic.monadic_parcels.Goals as goal

pub returns : goal.returns
unfolding monadic_parcels
returns c = search rules
