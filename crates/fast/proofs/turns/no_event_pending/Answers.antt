use Rattle.fast.proofs.TurnLaws.{pending_so}
use Rattle.word.proofs.CaseLaws.{passed, not_both}
use Rattle.std.proofs.lemmas.Bool.{not_from_true}
use Rattle.fast.proofs.turns.no_event_pending.Goals as goal

pub returns-then-level-eq0 : goal.returns-then-level-eq0
returns-then-level-eq0 c = λ h. not_both h

pub returns-then-r-ne0 : goal.returns-then-r-ne0
returns-then-r-ne0 c = λ h. not_both h

pub returns-then-bit : goal.returns-then-bit
returns-then-bit c = λ h. not_both h

pub returns-then-not-stack_held : goal.returns-then-not-stack_held
returns-then-not-stack_held c = λ h. not_both h

pub returns-then-due_code-ne0 : goal.returns-then-due_code-ne0
returns-then-due_code-ne0 c = λ h. not_both h

pub returns : goal.returns
returns c = λ h. pending_so c.args.level c.args.r.now c.if-level-eq0.false c.if-r-ne0.false c.bit.result c.bit-2.result c.bit.ensures c.bit-2.ensures c.if-bit.false c.stack_held.result c.stack_held.ensures (passed _ (not_from_true _ c.if-not-stack_held.false)) c.due_code.result c.due_code.ensures c.if-due_code-ne0.false
