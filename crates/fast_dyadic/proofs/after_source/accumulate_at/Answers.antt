use Rattle.fast_dyadic.proofs.AfterSourceLaws.{accumulated}
use Rattle.fast_dyadic.proofs.CacheWordLaws.{flags_hold}
use Rattle.word.proofs.CaseLaws.{passed, missed, not_both}
use mathlib.Core.Path.{refl, sym}
use Rattle.std.proofs.lemmas.Bool.{not_from_false, not_from_true}
use Rattle.fast_dyadic.proofs.after_source.accumulate_at.Goals as goal

pub returns-then-divides-x : goal.returns-then-divides-x
returns-then-divides-x c = (λ h. not_both h, λ h. (refl, refl, refl))

pub returns-then-y-ge-NOT_TAKEN : goal.returns-then-y-ge-NOT_TAKEN
returns-then-y-ge-NOT_TAKEN c = (λ h. not_both h, λ h. (refl, refl, refl))

pub returns-then-not-instruction_done : goal.returns-then-not-instruction_done
returns-then-not-instruction_done c = (λ h. not_both h, λ h. ((c.fast_store-instruction_done.ensures.1 (missed _ (not_from_false _ c.if-not-instruction_done.true))).0, refl, (c.fast_store-instruction_done.ensures.1 (missed _ (not_from_false _ c.if-not-instruction_done.true))).1))

pub returns : goal.returns
returns c = (λ h. (accumulated c.args.r.now c.args.q.now _ c.args.x c.fast_value-y.result c.args.m.now (c.fast_value-y.ensures c.if-y-ge-NOT_TAKEN.false) c.if-y-ge-NOT_TAKEN.false c.low32.result c.low32.ensures c.args.op c.divides.result c.divides.ensures _ refl c.if-divides-x.false c.operate-z.result c.operate-z.ensures c.value_of.result c.value_of.ensures _ _ _ c.with_flags.ensures c.stack_address-b.result c.stack_address-b.ensures (c.fast_store-instruction_done.ensures.0 (passed _ (not_from_true _ c.if-not-instruction_done.false))), flags_hold c.args.r.now _ c.operate-z.result c.with_flags.ensures), λ h. not_both (sym h))
