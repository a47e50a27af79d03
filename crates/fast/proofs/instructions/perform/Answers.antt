use Rattle.fast.proofs.InstructionLaws.{two_executed, one_executed}
use Rattle.word.proofs.CaseLaws.{not_both}
use mathlib.Core.Path.{refl}
use Rattle.fast.proofs.instructions.perform.Goals as goal

pub returns-in-Two : goal.returns-in-Two
returns-in-Two c = (λ h. two_executed c.args.r.now _ c.args.q.now _ c.args.m.now _ c.args.plan _ _ _ _ _ _ _ c.in-Two.is (c.fast_two.ensures.0 h), λ h. c.fast_two.ensures.1 h)

pub returns-in-One : goal.returns-in-One
returns-in-One c = (λ h. one_executed c.args.r.now _ c.args.q.now _ c.args.m.now _ c.args.plan _ _ _ _ c.in-One.is refl (c.fast_one.ensures.0 h), λ h. (refl, (c.fast_one.ensures.1 h).0, (c.fast_one.ensures.1 h).1))

pub returns-in-Other : goal.returns-in-Other
returns-in-Other c = (λ h. not_both h, λ h. (refl, refl, refl))
