-- Laws of the timers: one for each way out.
-- Assumes nothing.
use mathlib.Core.Path.{◌≡◌, sym, ap, ◌∙◌}
use mathlib.Core.Bool.{Bool, true, false, ◌&&◌}
use Prim.Native.Nat.{ℕ}
use lib.Dec.{eqb}
use lib.ListN.{set}
use Rattle.word.specs.Sums.{plus_of}
use Rattle.word.specs.Fields.{bit_of}
use Rattle.machine.specs.Registers.{Bank, word, timer1, timer2, timer1_due, timer2_due}
use Rattle.machine.specs.Cache.{Cache}
use Rattle.machine.specs.Status.{cpu}
use Rattle.step_spec.specs.Timers.{counts1, counts2, ticked, counted, first_counted, second_counted}

-- n is the timer's next word
pub overflows : (b : Bank) (q : Cache) (k due n : ℕ) (on : Bool) → n ≡ plus_of (word b k) 1 → (eqb n 0 && on) ≡ true
    → cpu (set (set b k n) due 1) q ≡ ticked (cpu b q) k due on
overflows b q k due n on e h = simp (sym e, h)

pub goes_on : (b : Bank) (q : Cache) (k due n : ℕ) (on : Bool) → n ≡ plus_of (word b k) 1 → (eqb n 0 && on) ≡ false
    → cpu (set b k n) q ≡ ticked (cpu b q) k due on
goes_on b q k due n on e h = simp (sym e, h)

module _ (b n : Bank) (q : Cache) (config : ℕ) (kernel completed t on : Bool) where
  pub first_counts : t ≡ counts1 config kernel completed → t ≡ true → on ≡ bit_of config 24
      → ((p : Cache) → cpu n p ≡ ticked (cpu b p) timer1 timer1_due on) → cpu n q ≡ first_counted config kernel completed (cpu b q)
  first_counts e h f w = w q ∙ simp (sym e, h, f)

  pub second_counts : t ≡ counts2 config kernel completed → t ≡ true → on ≡ bit_of config 31
      → ((p : Cache) → cpu n p ≡ ticked (cpu b p) timer2 timer2_due on) → cpu n q ≡ second_counted config kernel completed (cpu b q)
  second_counts e h f w = w q ∙ simp (sym e, h, f)

module _ (b : Bank) (q : Cache) (config : ℕ) (kernel completed t : Bool) where
  pub first_stays : t ≡ counts1 config kernel completed → t ≡ false → cpu b q ≡ first_counted config kernel completed (cpu b q)
  first_stays e h = simp (sym e, h)

  pub second_stays : t ≡ counts2 config kernel completed → t ≡ false → cpu b q ≡ second_counted config kernel completed (cpu b q)
  second_stays e h = simp (sym e, h)

pub both_counted : (b m n : Bank) (q : Cache) (config : ℕ) (kernel completed : Bool)
    → ((p : Cache) → cpu m p ≡ first_counted config kernel completed (cpu b p))
    → ((p : Cache) → cpu n p ≡ second_counted config kernel completed (cpu m p)) → cpu n q ≡ counted config kernel completed (cpu b q)
unfolding counted
both_counted b m n q config kernel completed v w = w q ∙ ap (second_counted config kernel completed) (v q)
