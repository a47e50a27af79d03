use Rattle.fast.proofs.FlowLaws.{return_done}
use Rattle.word.proofs.CaseLaws.{not_both}
use mathlib.Core.Path.{refl, sym}
use Rattle.fast.proofs.flow.return_from.Goals as goal

pub returns-then-stack_held : goal.returns-then-stack_held
returns-then-stack_held c = (λ h. return_done c.args.r.now _ _ c.args.v c.released.ensures c.stack_held.result c.stack_held.ensures c.if-stack_held.true c.args.q.now c.args.m.now c.stack_address-a.result c.stack_address-a.ensures c.fast_read-x.result (c.fast_read-x.ensures c.if-x-lt-NOT_TAKEN.true) c.if-x-lt-NOT_TAKEN.true c.low32.result c.low32.ensures c.jumped.ensures, λ h. not_both (sym h))

pub returns-else-stack_held : goal.returns-else-stack_held
returns-else-stack_held c = (λ h. not_both h, λ h. refl)

pub returns-else-x-lt-NOT_TAKEN : goal.returns-else-x-lt-NOT_TAKEN
returns-else-x-lt-NOT_TAKEN c = (λ h. not_both h, λ h. refl)
