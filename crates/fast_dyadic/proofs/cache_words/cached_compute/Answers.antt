use Rattle.fast_dyadic.proofs.CacheWordLaws.{rest_compute, flags_hold}
use Rattle.word.proofs.CaseLaws.{not_both}
use mathlib.Core.Path.{refl, sym}
use Rattle.fast_dyadic.proofs.cache_words.cached_compute.Goals as goal

pub returns-then-divides-x : goal.returns-then-divides-x
returns-then-divides-x c = (λ h. not_both h, λ h. (refl, refl))

pub returns : goal.returns
returns c = (λ h. ((λ w d t. rest_compute _ _ _ c.requires.0 c.requires.1 w d t _ _ c.cache_read-y.ensures _ _ c.divides.ensures _ refl c.if-divides-x.false _ c.operate-z.ensures _ c.value_of.ensures _ c.with_flags.ensures _ c.cache_write.ensures), flags_hold c.args.r.now _ c.operate-z.result c.with_flags.ensures), λ h. not_both (sym h))
