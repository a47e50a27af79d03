use native.Mathlib.Omega.{arith}
use mathlib.Core.Path.{refl}
use Rattle.fast.proofs.TextLaws.{effect_free_here}
use Rattle.std.proofs.Common.{rules}
use Rattle.fast.proofs.texts.text_place.Goals as goal

pub returns-then-a-ne0 : goal.returns-then-a-ne0
returns-then-a-ne0 c = λ h. absurd (omega (arith, h))

pub returns-then-a-gt4086 : goal.returns-then-a-gt4086
returns-then-a-gt4086 c = λ h. absurd (omega (arith, h))

pub returns-then-x-ge-NOWHERE : goal.returns-then-x-ge-NOWHERE
returns-then-x-ge-NOWHERE c = λ h. absurd (omega (arith, h, c.if-x-ge-NOWHERE.true))

pub returns-then-m-x : goal.returns-then-m-x
returns-then-m-x c = λ h. absurd (omega (arith, h))

pub returns : goal.returns
returns c = λ h. (effect_free_here c.args.r.now _ _ _ c.is_user.ensures c.is_virtual.ensures refl _ _ _ c.fetch_place-x.ensures c.if-x-ge-NOWHERE.false, c.if-a-ne0.false, omega (arith, c.if-a-gt4086.false), search rules, c.if-m-x.false)
