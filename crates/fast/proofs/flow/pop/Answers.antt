use Rattle.fast.proofs.FlowLaws.{pop_done}
use Rattle.word.proofs.CaseLaws.{not_both}
use mathlib.Core.Path.{refl, sym}
use Rattle.fast.proofs.flow.pop.Goals as goal

pub returns-then-stack_held : goal.returns-then-stack_held
returns-then-stack_held c = (λ h. pop_done c.args.r.now _ _ c.args.v c.released.ensures c.stack_held.result c.stack_held.ensures c.if-stack_held.true c.args.n c.advance_pc.ensures, λ h. not_both (sym h))

pub returns : goal.returns
returns c = (λ h. not_both h, λ h. refl)
