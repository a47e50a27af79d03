use Rattle.std.proofs.Common.{rules}
use Rattle.isa.specs.Decode.{decode_of, decode_prefixed, decode_bare}
use Rattle.decode.specs.Forms.{decode_rest}
use Rattle.decode.proofs.decode_text.Goals as goal

pub returns-then-t-lt1 : goal.returns-then-t-lt1
unfolding decode_of
returns-then-t-lt1 c = search rules

pub returns : goal.returns
unfolding decode_of decode_rest decode_prefixed decode_bare
returns c = search rules
