use Rattle.fast.proofs.FlowLaws.{taken_goes, passed_goes}
use Rattle.word.proofs.CaseLaws.{not_both}
use mathlib.Core.Path.{sym}
use Rattle.fast.proofs.flow.jump_if.Goals as goal

pub returns-then-taken : goal.returns-then-taken
returns-then-taken c = (λ h. taken_goes c.args.r.now _ c.args.mode c.args.v c.args.taken c.args.n c.if-taken.true (c.jump.ensures.0 h), λ h. c.jump.ensures.1 h)

pub returns : goal.returns
returns c = (λ h. passed_goes c.args.r.now _ c.args.mode c.args.v c.args.taken c.args.n c.if-taken.false c.advance_pc.ensures, λ h. not_both (sym h))
