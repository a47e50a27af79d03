use Rattle.fast_dyadic.proofs.AccessLaws.{cached_stored, stored_uncached}
use Rattle.word.proofs.CaseLaws.{passed, missed, not_both}
use mathlib.Core.Path.{refl, sym}
use Rattle.std.proofs.Common.{rules}
use Rattle.fast_dyadic.proofs.accesses.fast_store.Goals as goal

pub returns-then-not-cached : goal.returns-then-not-cached
returns-then-not-cached c = (λ h. search (rules, stored_uncached, missed, c.memory_store.ensures.0 h), λ h. (search (rules, c.memory_store.ensures.1 h), refl))

pub returns-then-not-aligned : goal.returns-then-not-aligned
returns-then-not-aligned c = (λ h. not_both h, λ h. (refl, refl))

pub returns : goal.returns
returns c = (λ h. search (rules, cached_stored, passed), λ h. not_both (sym h))
