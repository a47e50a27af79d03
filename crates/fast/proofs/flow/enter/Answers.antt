use Prim.Native.Nat.{ℕ, ◌*◌, ◌/◌}
use mathlib.Core.Path.{refl, sym, ap, ◌∙◌}
use borrow.Author.Tests.{not-false}
use Rattle.word.proofs.CaseLaws.{not_both}
use Rattle.fast.proofs.FlowLaws.{enter_gives}
use Rattle.std.proofs.lemmas.Bool.{not_from_true}
use Rattle.fast.proofs.flow.enter.Goals as goal

pub returns-then-not-is_stack : goal.returns-then-not-is_stack
returns-then-not-is_stack c = (λ h. not_both h, λ h. refl)

pub returns-then-not-cache_on : goal.returns-then-not-cache_on
returns-then-not-cache_on c = (λ h. not_both h, λ h. refl)

pub returns-then-minus-gt-STACK_CACHE_BYTES : goal.returns-then-minus-gt-STACK_CACHE_BYTES
returns-then-minus-gt-STACK_CACHE_BYTES c = (λ h. not_both h, λ h. refl)

pub returns-then-check_store-ge-EXCEPTION : goal.returns-then-check_store-ge-EXCEPTION
returns-then-check_store-ge-EXCEPTION c = (λ h. not_both h, λ h. refl)

pub returns-then-stack_held : goal.returns-then-stack_held
returns-then-stack_held c = (λ h. enter_gives c.args.r.now c.args.mode c.args.v c.args.n c.is_stack.result c.is_stack.ensures (not-false _ (not_from_true _ c.if-not-is_stack.false)) c.cache_on.result c.cache_on.ensures (not-false _ (not_from_true _ c.if-not-cache_on.false)) _ (c.clear_low-a.ensures ∙ ap (λ (z : ℕ). z / 16 * 16) c.stack_address.ensures) c.minus.result c.minus.ensures c.if-minus-gt-STACK_CACHE_BYTES.false c.args.m.now c.check_store.result c.check_store.ensures c.if-check_store-ge-EXCEPTION.false _ c.with_csp.ensures _ _ c.with_guard.ensures c.advance_pc.ensures c.stack_held.result c.stack_held.ensures c.if-stack_held.true, λ h. not_both (sym h))

pub returns : goal.returns
returns c = (λ h. not_both h, λ h. refl)
