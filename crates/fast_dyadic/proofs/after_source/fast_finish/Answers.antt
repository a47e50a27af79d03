use Rattle.fast_dyadic.proofs.AfterSourceLaws.{computes, accumulates, compares, moves}
use Rattle.word.proofs.CaseLaws.{not_both}
use mathlib.Core.Path.{refl}
use Rattle.fast_dyadic.proofs.after_source.fast_finish.Goals as goal

pub returns-then-k-ge-NOWHERE : goal.returns-then-k-ge-NOWHERE
returns-then-k-ge-NOWHERE c = (λ h. not_both h, λ h. (refl, refl, refl))

pub returns-in-Compute : goal.returns-in-Compute
returns-in-Compute c = (λ h. computes c.args.r.now _ c.args.q.now _ c.args.wide c.args.mode c.args.d c.args.x c.args.m.now _ c.fast_address-k.result (c.fast_address-k.ensures c.if-k-ge-NOWHERE.false) c.if-k-ge-NOWHERE.false c.low32-a.result c.low32-a.ensures c.args.t (c.compute_at.ensures.0 h).1 _ c.in-Compute.is (c.compute_at.ensures.0 h).0, λ h. c.compute_at.ensures.1 h)

pub returns-in-Accumulate : goal.returns-in-Accumulate
returns-in-Accumulate c = (λ h. accumulates c.args.r.now _ c.args.q.now _ c.args.wide c.args.mode c.args.d c.args.x c.args.m.now _ c.fast_address-k.result (c.fast_address-k.ensures c.if-k-ge-NOWHERE.false) c.if-k-ge-NOWHERE.false c.low32-a.result c.low32-a.ensures c.args.t (c.accumulate_at.ensures.0 h).1 _ c.in-Accumulate.is (c.accumulate_at.ensures.0 h).0, λ h. c.accumulate_at.ensures.1 h)

pub returns-in-Interlock : goal.returns-in-Interlock
returns-in-Interlock c = (λ h. not_both h, λ h. (refl, refl, refl))

pub returns-in-Compare : goal.returns-in-Compare
returns-in-Compare c = (λ h. compares c.args.r.now _ c.args.q.now _ c.args.wide c.args.mode c.args.d c.args.x c.args.m.now _ c.fast_address-k.result (c.fast_address-k.ensures c.if-k-ge-NOWHERE.false) c.if-k-ge-NOWHERE.false c.low32-a.result c.low32-a.ensures c.args.t (c.compare_at.ensures.0 h).1 _ c.in-Compare.is (c.compare_at.ensures.0 h).0, λ h. (refl, c.compare_at.ensures.1 h, refl))

pub returns-in-TaggedAdd : goal.returns-in-TaggedAdd
returns-in-TaggedAdd c = (λ h. not_both h, λ h. (refl, refl, refl))

pub returns-in-TaggedSub : goal.returns-in-TaggedSub
returns-in-TaggedSub c = (λ h. not_both h, λ h. (refl, refl, refl))

pub returns-in-Move : goal.returns-in-Move
returns-in-Move c = (λ h. moves c.args.r.now c.args.r.now c.args.q.now _ c.args.wide c.args.mode c.args.d c.args.x c.args.m.now _ c.fast_address-k.result (c.fast_address-k.ensures c.if-k-ge-NOWHERE.false) c.if-k-ge-NOWHERE.false c.low32-a.result c.low32-a.ensures c.args.t refl c.in-Move.is (c.fast_put.ensures.0 h), λ h. ((c.fast_put.ensures.1 h).0, refl, (c.fast_put.ensures.1 h).1))

pub returns-in-MoveAddress : goal.returns-in-MoveAddress
returns-in-MoveAddress c = (λ h. not_both h, λ h. (refl, refl, refl))

pub returns-in-MoveWords : goal.returns-in-MoveWords
returns-in-MoveWords c = (λ h. not_both h, λ h. (refl, refl, refl))
