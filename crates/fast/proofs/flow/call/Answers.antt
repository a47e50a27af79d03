use mathlib.Core.Path.{refl, sym}
use borrow.Author.Tests.{not-false}
use Rattle.word.proofs.CaseLaws.{not_both}
use Rattle.fast.proofs.FlowLaws.{call_done}
use Rattle.std.proofs.lemmas.Bool.{not_from_true}
use Rattle.fast.proofs.flow.call.Goals as goal

pub returns-then-not-is_relative : goal.returns-then-not-is_relative
returns-then-not-is_relative c = (λ h. not_both h, λ h. (refl, refl))

pub returns-then-not-cached : goal.returns-then-not-cached
returns-then-not-cached c = (λ h. not_both h, λ h. (refl, refl))

pub returns-then-s-ne0 : goal.returns-then-s-ne0
returns-then-s-ne0 c = (λ h. not_both h, λ h. (refl, refl))

pub returns : goal.returns
returns c = (λ h. call_done c.args.r.now _ c.args.q.now _ c.args.mode c.args.v c.args.n c.is_relative.result c.is_relative.ensures (not-false _ (not_from_true _ c.if-not-is_relative.false)) _ refl c.cached.result c.cached.ensures (not-false _ (not_from_true _ c.if-not-cached.false)) c.if-s-ne0.false c.next_pc.result c.next_pc.ensures c.cache_write.ensures c.plus-a.result c.plus-a.ensures c.jumped.ensures, λ h. not_both (sym h))
