use Rattle.fast.proofs.InstructionLaws.{performed}
use Rattle.word.proofs.CaseLaws.{not_both}
use native.Mathlib.Omega.{arith}
use mathlib.Core.Path.{refl}
use Rattle.fast.proofs.instructions.fast_attempt.Goals as goal

pub returns-then-x-ge-NOWHERE : goal.returns-then-x-ge-NOWHERE
returns-then-x-ge-NOWHERE c = (λ h. not_both h, λ h. (refl, refl, refl))

pub parcel-p-requires : goal.parcel-p-requires
parcel-p-requires c = omega (arith, (c.text_place-x.ensures c.if-x-ge-NOWHERE.false).4)

pub returns-then-p-eq-CPU_PREFIX : goal.returns-then-p-eq-CPU_PREFIX
returns-then-p-eq-CPU_PREFIX c = (λ h. not_both h, λ h. (refl, refl, refl))

pub plan_at-plan-requires : goal.plan_at-plan-requires
plan_at-plan-requires c = ((c.text_place-x.ensures c.if-x-ge-NOWHERE.false).4, c.parcel-p.ensures, c.if-p-eq-CPU_PREFIX.false)

pub returns : goal.returns
returns c = (λ h. performed c.args.r.now _ c.args.q.now _ c.args.m.now _ _ c.text_place-x.result refl (c.text_place-x.ensures c.if-x-ge-NOWHERE.false) c.parcel-p.result c.parcel-p.ensures c.if-p-eq-CPU_PREFIX.false c.plan_at-plan.result c.plan_at-plan.ensures (c.perform.ensures.0 h), λ h. c.perform.ensures.1 h)
