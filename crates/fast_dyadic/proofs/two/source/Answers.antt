use Rattle.fast_dyadic.proofs.TwoLaws.{source_cached}
use Rattle.fast_dyadic.proofs.two.source.Goals as goal

pub returns-then-x-lt-NOT_TAKEN : goal.returns-then-x-lt-NOT_TAKEN
returns-then-x-lt-NOT_TAKEN c = λ h. source_cached c.args.r.now c.args.q.now c.args.wide _ c.args.m.now _ (c.cached_source-x.ensures h)

pub returns : goal.returns
returns c = λ h. c.memory_source.ensures h
