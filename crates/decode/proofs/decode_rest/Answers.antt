use Rattle.std.proofs.Common.{rules}
use Rattle.decode.specs.Forms.{decode_rest}
use Rattle.decode.proofs.decode_rest.Goals as goal

pub returns-then-t-lt1 : goal.returns-then-t-lt1
unfolding decode_rest
returns-then-t-lt1 c = search rules

pub returns-then-form_bits-lt2 : goal.returns-then-form_bits-lt2
unfolding decode_rest
returns-then-form_bits-lt2 c = search rules

pub returns-else-form_bits-lt2 : goal.returns-else-form_bits-lt2
unfolding decode_rest
returns-else-form_bits-lt2 c = search rules
