-- Laws of what is taken: one for each way out.
-- Assumes nothing.
use mathlib.Core.Path.{◌≡◌, sym, ap, ◌∙◌}
use Prim.Native.Nat.{ℕ, ◌+◌, ◌-◌, ◌*◌, ◌<◌, ◌≤◌}
use native.Mathlib.Omega.{arith}
use lib.Dec.{eqb}
use lib.ListN.{set}
use borrow.Author.Tests.{ne_eqb, eqb-true, eqb-false}
use Rattle.word.proofs.CaseLaws.{by_test}
use Rattle.machine.specs.Registers.{Bank, trace_due, timer1_due, timer2_due, nmi_taken}
use Rattle.machine.specs.Cache.{Cache}
use Rattle.machine.specs.Status.{cpu}
use Rattle.step_spec.specs.Events.{Event, interrupt, taken_of, vector_of}
use Rattle.step_pending.specs.Dues.{event_from}

-- a number that is none of the three
level_of : (k : ℕ) → (k ≡ 2 → ⊥) → (k ≡ 0x17 → ⊥) → (k ≡ 0x18 → ⊥) → event_from k ≡ interrupt (k - 0x10)
level_of k b c d = simp (ne_eqb k 2 b, ne_eqb k 0x17 c, ne_eqb k 0x18 d)

-- up to 16 a number that is not 2 is of level 0
level_zero : (k : ℕ) → k ≤ 16 → (k ≡ 2 → ⊥) → event_from k ≡ interrupt 0
level_zero k h b =
    let e : k - 0x10 ≡ 0 = omega arith in
    level_of k b (λ f. omega arith) (λ f. omega arith) ∙ ap interrupt e

pub vector_trace : (k : ℕ) → k ≡ 2 → 4 ≡ vector_of (event_from k)
vector_trace k e = rw e

pub vector_zero : (k : ℕ) → k < 16 → (k ≡ 2 → ⊥) → 16 ≡ vector_of (event_from k)
vector_zero k h b = sym (ap vector_of (level_zero k (omega arith) b))

pub vector_high : (k : ℕ) → 16 ≤ k → k * 4 - 48 ≡ vector_of (event_from k)
vector_high k h =
    by_test (eqb k 0x17)
    (λ e. rw (eqb-true k 0x17 e))
    (λ e.
    by_test (eqb k 0x18)
    (λ f. rw (eqb-true k 0x18 f))
    (λ f.
    let g : k * 4 - 48 ≡ 16 + 4 * (k - 0x10) = omega arith in
    g ∙ sym (ap vector_of (level_of k (λ i. omega arith) (eqb-false k 0x17 e) (eqb-false k 0x18 f)))))

module _ (b : Bank) (q : Cache) (k : ℕ) where
  pub takes_trace : k ≡ 2 → cpu (set b trace_due 0) q ≡ taken_of (event_from k) (cpu b q)
  takes_trace e = rw e

  pub takes_zero : k ≤ 16 → (k ≡ 2 → ⊥) → cpu (set b nmi_taken 1) q ≡ taken_of (event_from k) (cpu b q)
  takes_zero h a = sym (ap (λ (d : Event). taken_of d (cpu b q)) (level_zero k h a))

  pub takes_timer1 : k ≡ 0x17 → cpu (set b timer1_due 0) q ≡ taken_of (event_from k) (cpu b q)
  takes_timer1 e = rw e

  pub takes_timer2 : k ≡ 0x18 → cpu (set b timer2_due 0) q ≡ taken_of (event_from k) (cpu b q)
  takes_timer2 e = rw e

  pub takes_level : (k ≡ 0x17 → ⊥) → (k ≡ 0x18 → ⊥) → 16 < k → cpu b q ≡ taken_of (event_from k) (cpu b q)
  takes_level c d h =
      simp (level_of k (λ e. omega arith) c d, ne_eqb (k - 0x10) 0 (λ e. omega arith))
