use Rattle.fast_dyadic.proofs.CacheWordLaws.{rest_compare, flag_holds}
use Rattle.fast_dyadic.proofs.cache_words.cached_compare.Goals as goal

pub returns : goal.returns
returns c = ((λ w d t. rest_compare _ _ _ c.requires.0 c.requires.1 w d t c.args.x _ c.cache_read-y.ensures c.args.relation _ c.related.ensures _ c.with_flag.ensures), flag_holds c.args.r.now _ c.related.result c.with_flag.ensures)
