use Rattle.fast_dyadic.proofs.CacheWordLaws.{finish_known, rest_move}
use Rattle.word.proofs.CaseLaws.{not_both}
use mathlib.Core.Path.{refl, sym}
use Rattle.fast_dyadic.proofs.cache_words.cached_finish.Goals as goal

pub returns-in-Compute : goal.returns-in-Compute
returns-in-Compute c = (λ h. finish_known _ _ _ _ _ _ _ _ c.in-Compute.is refl (c.cached_compute.ensures.0 h).0 (c.cached_compute.ensures.0 h).1, λ h. c.cached_compute.ensures.1 h)

pub returns-in-Accumulate : goal.returns-in-Accumulate
returns-in-Accumulate c = (λ h. finish_known _ _ _ _ _ _ _ _ c.in-Accumulate.is refl (c.cached_accumulate.ensures.0 h).0 (c.cached_accumulate.ensures.0 h).1, λ h. c.cached_accumulate.ensures.1 h)

pub returns-in-Interlock : goal.returns-in-Interlock
returns-in-Interlock c = (λ h. not_both h, λ h. (refl, refl))

pub returns-in-Compare : goal.returns-in-Compare
returns-in-Compare c = (λ h. finish_known _ _ _ _ _ _ _ _ c.in-Compare.is refl c.cached_compare.ensures.0 c.cached_compare.ensures.1, λ h. not_both (sym h))

pub returns-in-TaggedAdd : goal.returns-in-TaggedAdd
returns-in-TaggedAdd c = (λ h. not_both h, λ h. (refl, refl))

pub returns-in-TaggedSub : goal.returns-in-TaggedSub
returns-in-TaggedSub c = (λ h. not_both h, λ h. (refl, refl))

pub returns-in-Move : goal.returns-in-Move
returns-in-Move c = (λ h. finish_known _ _ _ _ _ _ _ _ c.in-Move.is refl (λ w d t. rest_move _ _ _ c.requires.0 c.requires.1 w d t _ _ c.cache_write.ensures) refl, λ h. not_both (sym h))

pub returns-in-MoveAddress : goal.returns-in-MoveAddress
returns-in-MoveAddress c = (λ h. not_both h, λ h. (refl, refl))

pub returns-in-MoveWords : goal.returns-in-MoveWords
returns-in-MoveWords c = (λ h. not_both h, λ h. (refl, refl))
