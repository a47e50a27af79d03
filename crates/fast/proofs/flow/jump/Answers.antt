use Rattle.fast.proofs.FlowLaws.{jump_goes}
use Rattle.word.proofs.CaseLaws.{not_both}
use mathlib.Core.Path.{refl, sym}
use Rattle.fast.proofs.flow.jump.Goals as goal

pub returns-then-is_relative : goal.returns-then-is_relative
returns-then-is_relative c = (λ h. jump_goes c.args.r.now _ c.args.mode c.args.v c.is_relative.result c.is_relative.ensures c.if-is_relative.true c.plus-a.result c.plus-a.ensures c.jumped.ensures, λ h. not_both (sym h))

pub returns : goal.returns
returns c = (λ h. not_both h, λ h. refl)
