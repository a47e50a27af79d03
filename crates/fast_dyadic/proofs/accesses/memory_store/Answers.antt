use Rattle.fast_dyadic.proofs.AccessLaws.{uncached_stored, uncached_kept}
use Rattle.word.proofs.CaseLaws.{passed, not_both}
use mathlib.Core.Path.{refl, sym}
use Rattle.std.proofs.Common.{rules}
use Rattle.std.proofs.lemmas.Bool.{not_from_true}
use Rattle.fast_dyadic.proofs.accesses.memory_store.Goals as goal

pub returns-then-not-aligned : goal.returns-then-not-aligned
returns-then-not-aligned c = (λ h. not_both h, λ h. refl)

pub returns-then-x-ge-NOWHERE : goal.returns-then-x-ge-NOWHERE
returns-then-x-ge-NOWHERE c = (λ h. not_both h, λ h. refl)

pub returns-then-y-ge-EXCEPTION : goal.returns-then-y-ge-EXCEPTION
returns-then-y-ge-EXCEPTION c = (λ h. not_both h, λ h. search (rules, uncached_kept, passed))

pub returns : goal.returns
returns c = (λ h. uncached_stored c.args.r.now _ _ _ c.is_user.ensures c.is_virtual.ensures refl _ _ _ (search rules) _ c.aligned.ensures (passed _ (not_from_true _ c.if-not-aligned.false)) _ c.if-x-ge-NOWHERE.false _ c.low32.ensures _ c.if-y-ge-EXCEPTION.false c.write_place-x.ensures _ _ c.store-y.ensures, λ h. not_both (sym h))
