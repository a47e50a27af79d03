use Rattle.fast.proofs.TextLaws.{short_planned, wide_planned}
use native.Mathlib.Omega.{arith}
use Rattle.fast.proofs.texts.plan_at.Goals as goal

pub returns-then-p-lt2 : goal.returns-then-p-lt2
returns-then-p-lt2 c = short_planned c.args.m.now c.args.i c.args.p c.requires.1 c.requires.2 c.plan_short.result (omega (arith, c.if-p-lt2.true)) c.plan_short.ensures

pub returns : goal.returns
returns c = wide_planned c.args.m.now c.args.i c.args.p c.requires.1 c.requires.2 c.plan_wide.result (omega (arith, c.if-p-lt2.false)) _ _ _ _ c.parcel.ensures c.parcel-2.ensures c.parcel-3.ensures c.parcel-4.ensures c.plan_wide.ensures
