use Rattle.std.proofs.Common.{rules}
use Rattle.isa.specs.Decode.{decode_wide, decode_three}
use Rattle.decode.proofs.wide.decode_wide.Goals as goal

pub returns-then-n-after : goal.returns-then-n-after
unfolding decode_wide decode_three
returns-then-n-after c = search rules

pub returns-then-is_monadic : goal.returns-then-is_monadic
unfolding decode_wide decode_three
returns-then-is_monadic c = search rules

pub returns-else-is_monadic : goal.returns-else-is_monadic
unfolding decode_wide decode_three
returns-else-is_monadic c = search rules
