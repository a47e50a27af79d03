use Rattle.std.proofs.Common.{rules}
use Rattle.isa.specs.Encode.{encode_short}
use Rattle.encode.proofs.short.encode_short.Goals as goal

pub returns : goal.returns
unfolding encode_short
returns c = search rules
