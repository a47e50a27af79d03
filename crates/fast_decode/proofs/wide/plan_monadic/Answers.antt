use Rattle.std.proofs.Common.{rules}
use Rattle.isa.specs.Decode.{decode_monadic}
use Rattle.fast_decode.proofs.wide.plan_monadic.Goals as goal

pub returns-in-Row : goal.returns-in-Row
unfolding decode_monadic
returns-in-Row c = search rules

pub returns-in-Unimplemented : goal.returns-in-Unimplemented
unfolding decode_monadic
returns-in-Unimplemented c = search rules
