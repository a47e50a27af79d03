use Rattle.std.proofs.Common.{rules}
use Rattle.isa.specs.Encode.{encode_of}
use Rattle.encode.proofs.encode.Goals as goal

pub returns-then-length-length_of : goal.returns-then-length-length_of
unfolding encode_of
returns-then-length-length_of c = search rules

pub returns-else-length-length_of : goal.returns-else-length-length_of
unfolding encode_of
returns-else-length-length_of c = search rules
