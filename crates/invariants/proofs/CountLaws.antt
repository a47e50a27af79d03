-- How often a step asks: at most 79 times, and an attempt of a confined run at most 75 times.
-- Assumes nothing.
use Prim.Native.Nat.{ℕ}
use Rattle.access_spec.specs.Program.{Program}
use Rattle.access_spec.proofs.BoundedLaws.{Bounded, Any, Within, within_weaker, within_bounded}
use Rattle.machine.specs.Status.{Cpu}
use Rattle.step_spec.specs.Step.{step}
use Rattle.run_spec.specs.Run.{confined_attempt}
use Rattle.invariants.proofs.RuleLaws.{Rules, AnswersAllowed, any_answer}
use Rattle.invariants.proofs.StepLaws.{SteppedHolds, Leaves, step_part, confined_part}

-- nothing but the count
abbrev pub anything_goes : Rules
anything_goes =
    record {
      Asks = λ q. Unit;
      Holds = λ c. Unit;
      Raises = λ e. Unit;
      Free = Unit;
      Words = ⊥;
      asks = λ c q h e. tt;
      anything = λ f q. tt;
      kernel = λ c h e. tt;
      raises = λ e l. tt;
      raises_all = λ f e. tt;
      plain = λ c k v t h w. tt;
      register = λ c k v t f h w. tt;
      status = λ c v h a. tt;
      stored = λ c w a v h. tt;
      filled = λ c a w x y z h f. tt;
      words = λ c k h w. absurd w;
    }

counted_only : {A : Type 0} (P : A → Type 0) (n : ℕ) (p : Program A) → Within Any (AnswersAllowed anything_goes) P n p → Bounded Any Any n p
counted_only P n p h =
    within_bounded Any (AnswersAllowed anything_goes) Any n p (any_answer anything_goes (λ w. w) (λ e. tt)) (within_weaker Any (AnswersAllowed anything_goes) P Any n p (λ x _. tt) h)

pub step_bounded : (level : ℕ) (c : Cpu) → Bounded Any Any 79 (step level c)
step_bounded level c = counted_only (SteppedHolds anything_goes) 79 (step level c) (step_part anything_goes tt level c tt)

pub confined_bounded : (c : Cpu) → Bounded Any Any 75 (confined_attempt c)
confined_bounded c = counted_only (Leaves (λ d. Unit)) 75 (confined_attempt c) (confined_part anything_goes c tt)
