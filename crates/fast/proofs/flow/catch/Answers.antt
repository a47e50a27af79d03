use mathlib.Core.Path.{refl, sym}
use borrow.Author.Tests.{not-false}
use Rattle.word.proofs.CaseLaws.{not_both}
use Rattle.fast.proofs.FlowLaws.{catch_goes}
use Rattle.std.proofs.lemmas.Bool.{not_from_true}
use Rattle.fast.proofs.flow.catch.Goals as goal

pub returns-then-not-is_stack : goal.returns-then-not-is_stack
returns-then-not-is_stack c = (λ h. not_both h, λ h. refl)

pub returns-then-not-cache_on : goal.returns-then-not-cache_on
returns-then-not-cache_on c = (λ h. not_both h, λ h. refl)

pub returns-then-r-stack_address : goal.returns-then-r-stack_address
returns-then-r-stack_address c = (λ h. not_both h, λ h. refl)

pub returns : goal.returns
returns c = (λ h. catch_goes c.args.r.now c.args.mode c.args.v c.args.n c.is_stack.result c.is_stack.ensures (not-false _ (not_from_true _ c.if-not-is_stack.false)) c.cache_on.result c.cache_on.ensures (not-false _ (not_from_true _ c.if-not-cache_on.false)) _ c.stack_address.result c.stack_address.ensures c.if-r-stack_address.false c.advance_pc.ensures, λ h. not_both (sym h))
