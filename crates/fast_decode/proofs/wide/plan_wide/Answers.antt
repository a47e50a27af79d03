use Rattle.std.proofs.Common.{rules}
use Rattle.isa.specs.Decode.{decode_wide, decode_three}
use Rattle.fast_decode.proofs.wide.plan_wide.Goals as goal

pub returns-then-is_monadic : goal.returns-then-is_monadic
unfolding decode_wide decode_three
returns-then-is_monadic c = search rules

pub returns : goal.returns
unfolding decode_wide decode_three
returns c = search rules
