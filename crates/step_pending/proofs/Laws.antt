-- Laws that other crates cite: numbers of what is due.
-- Assumes nothing.
use mathlib.Core.Path.{◌≡◌, refl, ap}
use mathlib.Core.Bool.{Bool, true, false, cond, not, ◌&&◌}
use Prim.Native.Nat.{ℕ, ◌+◌, ◌-◌, ◌≤◌}
use native.Mathlib.Omega.{arith}
use lib.Dec.{eqb, ltb, leb}
use borrow.Author.Tests.{ne_eqb}
use Rattle.machine.specs.Registers.{Bank, trace_due, timer1_due, timer2_due, nmi_taken}
use Rattle.step_spec.specs.Events.{interrupt, timer1, timer2, trace, Due, none, due, is_pending, priority, due_of}
use Rattle.step_pending.specs.Dues.{due_code, due_from}
use Rattle.step_pending.proofs.EventLaws.{asked}

-- a number stands for what it is the number of
code_level : (n : ℕ) → n ≤ 6 → due_from (0x10 + n) ≡ due (interrupt n)
code_level n h =
    let e : 0x10 + n - 0x10 ≡ n = omega arith in
    simp
    (ne_eqb (0x10 + n) 0 (λ e. omega arith), ne_eqb (0x10 + n) 2 (λ e. omega arith), ne_eqb (0x10 + n) 0x17 (λ e. omega arith), ne_eqb (0x10 + n) 0x18 (λ e. omega arith))
    (ap (λ (k : ℕ). due (interrupt k)) e)

abbrev back : Due → Type 0
back d = due_from (due_code d) ≡ d

chosen : (t : Bool) (x y : Due) → (t ≡ true → back x) → back y → back (cond t x y)
chosen true x y f g = f refl
chosen false x y f g = g

pub due_known : (level : ℕ) (b : Bank) → due_from (due_code (due_of level b)) ≡ due_of level b
due_known level b =
    chosen (eqb level 0 && not (is_pending b nmi_taken)) (due (interrupt 0)) _ (λ e. refl)
    (chosen (eqb level 1 && ltb 1 (priority b)) (due (interrupt 1)) _ (λ e. refl)
    (chosen (is_pending b timer1_due && ltb 1 (priority b)) (due timer1) _ (λ e. refl)
    (chosen (is_pending b timer2_due && ltb 1 (priority b)) (due timer2) _ (λ e. refl)
    (chosen (leb 2 level && leb level 6 && ltb level (priority b)) (due (interrupt level)) _ (λ e. code_level level (asked level (priority b) e))
    (chosen (is_pending b trace_due) (due trace) none (λ e. refl) refl)))))
