-- What a trace and the timers change decides nothing about the stack.
-- Assumes nothing.
use Prim.Native.Nat.{ℕ}
use mathlib.Core.Path.{◌≡◌, refl, ◌∙◌}
use mathlib.Core.Bool.{Bool, true, false, cond, ◌&&◌}
use lib.Dec.{eqb}
use Rattle.word.specs.Sums.{plus_of}
use Rattle.word.specs.Fields.{bit_of}
use Rattle.machine.specs.Registers.{sp, msp, trace_due, timer1, timer2, timer1_due, timer2_due}
use Rattle.machine.specs.Status.{Cpu, reg, with}
use Rattle.machine.proofs.BankLaws.{word_set_other}
use Rattle.step_spec.specs.Timers.{counts1, counts2, ticked, counted}
use Rattle.step_spec.specs.Step.{trace_falls, holds_stack}

pub holds_with : (c : Cpu) (k v : ℕ) → eqb sp k ≡ false → eqb msp k ≡ false → holds_stack (with c k v) ≡ holds_stack c
holds_with c k v e f = rw (word_set_other c.bank k v sp e, word_set_other c.bank k v msp f) refl

pub holds_traced : (b : Bool) (c : Cpu) → holds_stack (trace_falls b c) ≡ holds_stack c
holds_traced true c = holds_with c trace_due 1 refl refl
holds_traced false c = refl

holds_ticked : (c : Cpu) (k due : ℕ) (on : Bool) → eqb sp k ≡ false → eqb msp k ≡ false → eqb sp due ≡ false → eqb msp due ≡ false → holds_stack (ticked c k due on) ≡ holds_stack c
holds_ticked c k due on e f g h = go (eqb (plus_of (reg c k) 1) 0 && on) ∙ holds_with c k (plus_of (reg c k) 1) e f
  where
    go : (b : Bool) → holds_stack (cond b (with (with c k (plus_of (reg c k) 1)) due 1) (with c k (plus_of (reg c k) 1))) ≡ holds_stack (with c k (plus_of (reg c k) 1))
    go true = holds_with (with c k (plus_of (reg c k) 1)) due 1 g h
    go false = refl

pub holds_counted : (config : ℕ) (kernel completed : Bool) (c : Cpu) → holds_stack (counted config kernel completed c) ≡ holds_stack c
unfolding counted
holds_counted config kernel completed c = second (counts2 config kernel completed) (cond (counts1 config kernel completed) (ticked c timer1 timer1_due (bit_of config 24)) c) ∙ first (counts1 config kernel completed)
  where
    first : (b : Bool) → holds_stack (cond b (ticked c timer1 timer1_due (bit_of config 24)) c) ≡ holds_stack c
    first true = holds_ticked c timer1 timer1_due (bit_of config 24) refl refl refl refl
    first false = refl

    second : (b : Bool) (d : Cpu) → holds_stack (cond b (ticked d timer2 timer2_due (bit_of config 31)) d) ≡ holds_stack d
    second true d = holds_ticked d timer2 timer2_due (bit_of config 31) refl refl refl refl
    second false d = refl
