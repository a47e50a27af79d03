-- Laws of what is due: one for each way out.
-- Assumes nothing.
use mathlib.Core.Path.{◌≡◌, sym, ◌∙◌}
use mathlib.Core.Bool.{Bool, true, false, not, ◌&&◌}
use Prim.Native.Nat.{ℕ, ◌+◌, ◌<◌, ◌≤◌}
use native.Mathlib.Omega.{arith}
use lib.Dec.{eqb, ltb, leb}
use lib.ListN.{set}
use borrow.Author.Tests.{ne_eqb, eq-eqb, ltb-true, leb-true, not-true, le-leb, lt-leb}
use Rattle.word.proofs.CaseLaws.{and_left, and_right}
use Rattle.word.specs.Sums.{plus_of}
use Rattle.machine.specs.Registers.{Bank, word, trace_due, timer1_due, timer2_due, nmi_taken}
use Rattle.machine.specs.Cache.{Cache}
use Rattle.machine.specs.Status.{cpu}
use Rattle.step_spec.specs.Events.{none, is_pending, priority, due_of, looked}
use Rattle.step_spec.specs.Step.{trace_falls}
use Rattle.step_pending.specs.Dues.{due_code, nothing_due}

pub looks_other : (b : Bank) (q : Cache) (level : ℕ) → (level ≡ 0 → ⊥) → cpu (set b nmi_taken 0) q ≡ looked level (cpu b q)
looks_other b q level h = simp (ne_eqb level 0 h)

pub looks_same : (b : Bank) (q : Cache) (level : ℕ) → level ≡ 0 → cpu b q ≡ looked level (cpu b q)
looks_same b q level h = rw h

pub trace_set : (b : Bank) (q : Cache) (on : Bool) → on ≡ true → cpu (set b trace_due 1) q ≡ trace_falls on (cpu b q)
trace_set b q on h = rw h

pub trace_unset : (b : Bank) (q : Cache) (on : Bool) → on ≡ false → cpu b q ≡ trace_falls on (cpu b q)
trace_unset b q on h = rw h

-- an interrupt of level 6 at most
pub asked : (level p : ℕ) → (leb 2 level && leb level 6 && ltb level p) ≡ true → level ≤ 6
asked level p h = leb-true level 6 (and_right (leb 2 level) (leb level 6) (and_left (leb 2 level && leb level 6) (ltb level p) h))

module _ (level : ℕ) (b : Bank) (p : ℕ) (e : p ≡ priority b) where
  pub due_nmi : (eqb level 0 && not (is_pending b nmi_taken)) ≡ true → 0x10 ≡ due_code (due_of level b)
  due_nmi h = simp h

  module _ (f : (eqb level 0 && not (is_pending b nmi_taken)) ≡ false) where
    pub due_first : (eqb level 1 && ltb 1 p) ≡ true → 0x11 ≡ due_code (due_of level b)
    due_first h = simp (f, sym e, h)

    module _ (g : (eqb level 1 && ltb 1 p) ≡ false) where
      pub due_timer1 : (is_pending b timer1_due && ltb 1 p) ≡ true → 0x17 ≡ due_code (due_of level b)
      due_timer1 h = simp (f, sym e, g, h)

      module _ (i : (is_pending b timer1_due && ltb 1 p) ≡ false) where
        pub due_timer2 : (is_pending b timer2_due && ltb 1 p) ≡ true → 0x18 ≡ due_code (due_of level b)
        due_timer2 h = simp (f, sym e, g, i, h)

        module _ (j : (is_pending b timer2_due && ltb 1 p) ≡ false) where
          pub due_level : (r : ℕ) → (leb 2 level && leb level 6 && ltb level p) ≡ true → r ≡ plus_of 0x10 level → r ≡ due_code (due_of level b)
          due_level r h l =
              let a : level ≤ 6 = asked level p h in
              let m : plus_of 0x10 level ≡ 0x10 + level = omega arith in
              l ∙ m ∙ simp (f, sym e, g, i, j, h)

          module _ (k : (leb 2 level && leb level 6 && ltb level p) ≡ false) where
            pub due_trace : word b trace_due ≡ 1 → 0x2 ≡ due_code (due_of level b)
            due_trace h = simp (f, sym e, g, i, j, k, eq-eqb (word b trace_due) 1 h)

            pub due_none : (word b trace_due ≡ 1 → ⊥) → 0 ≡ due_code (due_of level b)
            due_none h = simp (f, sym e, g, i, j, k, ne_eqb (word b trace_due) 1 h)

-- nothing is due where nothing can be
module _ (level : ℕ) (b : Bank) (h : nothing_due level b ≡ true) where
  others : (ltb 6 level && not (is_pending b timer1_due) && not (is_pending b timer2_due)) ≡ true
  others = and_left (ltb 6 level && not (is_pending b timer1_due) && not (is_pending b timer2_due)) (not (is_pending b trace_due)) h

  first_two : (ltb 6 level && not (is_pending b timer1_due)) ≡ true
  first_two = and_left (ltb 6 level && not (is_pending b timer1_due)) (not (is_pending b timer2_due)) others

  nothing : due_of level b ≡ none
  nothing =
      let l : 6 < level = ltb-true 6 level (and_left (ltb 6 level) (not (is_pending b timer1_due)) first_two) in
      let t1 : is_pending b timer1_due ≡ false = not-true _ (and_right (ltb 6 level) (not (is_pending b timer1_due)) first_two) in
      let t2 : is_pending b timer2_due ≡ false = not-true _ (and_right (ltb 6 level && not (is_pending b timer1_due)) (not (is_pending b timer2_due)) others) in
      let t : is_pending b trace_due ≡ false = not-true _ (and_right (ltb 6 level && not (is_pending b timer1_due) && not (is_pending b timer2_due)) (not (is_pending b trace_due)) h) in
      simp (ne_eqb level 0 (λ e. omega arith), ne_eqb level 1 (λ e. omega arith), le-leb 2 level (omega arith), lt-leb level 6 l, t1, t2, t)

pub due_quiet : (level : ℕ) (b : Bank) (t : Bool) → t ≡ nothing_due level b → t ≡ true → 0 ≡ due_code (due_of level b)
due_quiet level b t e h = rw (nothing level b (sym e ∙ h))
