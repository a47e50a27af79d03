use Rattle.fast_dyadic.proofs.CacheWordLaws.{cached_low}
use Rattle.fast_dyadic.proofs.TwoLaws.{finish_cached}
use mathlib.Core.Path.{refl}
use Rattle.fast_dyadic.proofs.two.finish.Goals as goal

pub cached_finish-requires : goal.cached_finish-requires
cached_finish-requires c = ((cached_low c.args.r.now _ _ _ (c.cached_address-a.ensures c.if-a-lt-NOWHERE.true) c.if-a-lt-NOWHERE.true c.low32.ensures).1, (cached_low c.args.r.now _ _ _ (c.cached_address-a.ensures c.if-a-lt-NOWHERE.true) c.if-a-lt-NOWHERE.true c.low32.ensures).2)

pub returns-then-a-lt-NOWHERE : goal.returns-then-a-lt-NOWHERE
returns-then-a-lt-NOWHERE c = (λ h. finish_cached c.args.r.now _ c.args.q.now _ c.args.wide c.args.t c.args.mode c.args.d c.args.x _ c.args.m.now c.is_stack_word.result c.is_stack_word.ensures c.if-is_stack_word.true (c.cached_finish.ensures.0 h).0 (c.cached_finish.ensures.0 h).1 (cached_low c.args.r.now _ _ _ (c.cached_address-a.ensures c.if-a-lt-NOWHERE.true) c.if-a-lt-NOWHERE.true c.low32.ensures).0 (c.cached_finish.ensures.0 h).2, λ h. (refl, (c.cached_finish.ensures.1 h).0, (c.cached_finish.ensures.1 h).1))

pub returns : goal.returns
returns c = c.fast_finish.ensures
