use Rattle.fast_dyadic.proofs.AfterSourceLaws.{compared}
use Rattle.fast_dyadic.proofs.CacheWordLaws.{flag_holds}
use Rattle.word.proofs.CaseLaws.{not_both}
use mathlib.Core.Path.{refl, sym}
use Rattle.fast_dyadic.proofs.after_source.compare_at.Goals as goal

pub returns-then-y-ge-NOT_TAKEN : goal.returns-then-y-ge-NOT_TAKEN
returns-then-y-ge-NOT_TAKEN c = (λ h. not_both h, λ h. refl)

pub returns : goal.returns
returns c = (λ h. (compared c.args.r.now c.args.q.now _ c.args.x c.fast_value-y.result c.args.m.now (c.fast_value-y.ensures c.if-y-ge-NOT_TAKEN.false) c.if-y-ge-NOT_TAKEN.false c.low32.result c.low32.ensures c.args.relation c.related.result c.related.ensures _ c.with_flag.ensures, flag_holds c.args.r.now _ c.related.result c.with_flag.ensures), λ h. not_both (sym h))
