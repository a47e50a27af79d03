use Rattle.fast_dyadic.proofs.TwoLaws.{two_whole}
use Rattle.word.proofs.CaseLaws.{passed, missed, not_both}
use mathlib.Core.Path.{refl, sym}
use Rattle.std.proofs.lemmas.Bool.{not_from_false, not_from_true}
use Rattle.fast_dyadic.proofs.two.fast_two.Goals as goal

pub returns-then-x-ge-NOT_TAKEN : goal.returns-then-x-ge-NOT_TAKEN
returns-then-x-ge-NOT_TAKEN c = (λ h. not_both h, λ h. (refl, refl, refl))

pub returns-then-not-instruction_done : goal.returns-then-not-instruction_done
returns-then-not-instruction_done c = (λ h. not_both h, λ h. c.finish-instruction_done.ensures.1 (missed _ (not_from_false _ c.if-not-instruction_done.true)))

pub returns : goal.returns
returns c = (λ h. two_whole c.args.r.now _ _ c.args.q.now _ c.args.n c.args.wide c.args.t c.args.sm c.args.s c.args.dm c.args.d c.args.m.now _ c.source-x.result c.low32.result (c.source-x.ensures c.if-x-ge-NOT_TAKEN.false) c.if-x-ge-NOT_TAKEN.false c.low32.ensures (c.finish-instruction_done.ensures.0 (passed _ (not_from_true _ c.if-not-instruction_done.false))).0 (c.finish-instruction_done.ensures.0 (passed _ (not_from_true _ c.if-not-instruction_done.false))).1 c.advance_pc.ensures (c.finish-instruction_done.ensures.0 (passed _ (not_from_true _ c.if-not-instruction_done.false))).2, λ h. not_both (sym h))
