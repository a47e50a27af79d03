use Rattle.fast.proofs.TurnLaws.{fast_goes}
use Rattle.word.proofs.CaseLaws.{passed, missed, not_both}
use mathlib.Core.Path.{refl, sym}
use Rattle.std.proofs.lemmas.Bool.{not_from_false, not_from_true}
use Rattle.fast.proofs.turns.fast_turn.Goals as goal

pub returns-then-not-no_event_pending : goal.returns-then-not-no_event_pending
returns-then-not-no_event_pending c = (λ h. not_both h, λ h. (refl, refl, refl))

pub returns-then-not-instruction_done : goal.returns-then-not-instruction_done
returns-then-not-instruction_done c = (λ h. not_both h, λ h. c.fast_attempt-instruction_done.ensures.1 (missed _ (not_from_false _ c.if-not-instruction_done.true)))

pub returns : goal.returns
returns c = (λ h. fast_goes c.args.level c.args.r.now _ _ c.args.q.now _ c.args.m.now _ (c.no_event_pending.ensures (passed _ (not_from_true _ c.if-not-no_event_pending.false))) (c.fast_attempt-instruction_done.ensures.0 (passed _ (not_from_true _ c.if-not-instruction_done.false))) c.is_user-kernel.result c.is_user-kernel.ensures c.counted.ensures, λ h. not_both (sym h))
