-- A step keeps the shape of the machine: all words of the bank, what is due 1 or 0, sixteen quad-words of four words.
-- Assumes nothing.
use Prim.Native.Nat.{ℕ, ◌<◌, ◌≤◌}
use mathlib.Core.Path.{refl}
use mathlib.Core.Bool.{Bool, true, false, not, ◌&&◌, ◌||◌}
use native.Mathlib.Omega.{arith}
use lib.Dec.{T, eqb, ltb, leb, ltb→lt, leb→le}
use lib.ListN.{set}
use Rattle.word.specs.Widths.{bytes_of}
use Rattle.access_spec.proofs.BoundedLaws.{Bounded, Any, within_bounded}
use Rattle.machine.specs.Registers.{Bank, psw, stb, trace_due}
use Rattle.machine.specs.Shapes.{BankShape, CacheShape}
use Rattle.machine.specs.Status.{Cpu}
use Rattle.machine.proofs.BankLaws.{shape_register, shape_due}
use Rattle.machine.proofs.CacheLaws.{shape_set, shape_write}
use Rattle.step_spec.specs.Events.{looked}
use Rattle.step_spec.specs.Step.{trace_falls, Stepped, step, timed}
use Rattle.run_spec.specs.Run.{confined_attempt}
use Rattle.invariants.proofs.RuleLaws.{Rules, AnswersAllowed, any_answer, suits, plainly}
use Rattle.invariants.proofs.StepLaws.{SteppedHolds, Leaves, looked_holds, trace_holds, timed_holds, step_part, confined_part}

-- the shape of a machine of the code
pub record Shaped (c : Cpu) : Type 0 where
  pub bank : BankShape c.bank
  pub cache : CacheShape c.cache

suits_shape : (b : Bank) (k v : ℕ) → T (suits k v) → BankShape b → BankShape (set b k v)
suits_shape b k v t h = go (ltb k trace_due) (leb v 1) (λ x. ltb→lt k trace_due x) (λ x. leb→le v 1 x) t
  where
    go : (x y : Bool) → (T x → k < trace_due) → (T y → v ≤ 1) → T (x || y) → BankShape (set b k v)
    go true y f g t = shape_register b k v h (f tt)
    go false true f g t = shape_due b k v h (g tt)
    go false false f g t = absurd t

plain_shape : (b : Bank) (k v : ℕ) → T (plainly k v) → BankShape b → BankShape (set b k v)
plain_shape b k v t h = suits_shape b k v (second (not (eqb k psw || eqb k stb)) (suits k v) t) h
  where
    second : (x y : Bool) → T (x && y) → T y
    second true y t = t
    second false y t = absurd t

abbrev shaped : Rules
shaped =
    record {
      Asks = λ q. Unit;
      Holds = λ c. Shaped c;
      Raises = λ e. Unit;
      Free = Unit;
      Words = ⊥;
      asks = λ c q h e. tt;
      anything = λ f q. tt;
      kernel = λ c h e. tt;
      raises = λ e l. tt;
      raises_all = λ f e. tt;
      plain = λ c k v t h w. record { bank = plain_shape c.bank k v t h.bank; cache = h.cache };
      register = λ c k v t f h w. record { bank = suits_shape c.bank k v t h.bank; cache = h.cache };
      status = λ c v h a. record { bank = shape_register c.bank psw v h.bank (omega arith); cache = h.cache };
      stored = λ c w a v h. record { bank = h.bank; cache = shape_write (bytes_of w) c.cache a v h.cache };
      filled = λ c a w x y z h f. record { bank = h.bank; cache = shape_set c.cache _ _ h.cache (omega arith) refl };
      words = λ c k h w. absurd w;
    }

pub step_shaped : (level : ℕ) (c : Cpu) → Shaped c → Bounded Any (λ s. Shaped s.cpu) 79 (step level c)
step_shaped level c h =
    within_bounded Any (AnswersAllowed shaped) (SteppedHolds shaped) 79 (step level c) (any_answer shaped (λ w. w) (λ e. tt)) (step_part shaped tt level c h)

pub confined_shaped : (c : Cpu) → Shaped c → Bounded Any (Leaves Shaped) 75 (confined_attempt c)
confined_shaped c h = within_bounded Any (AnswersAllowed shaped) (Leaves Shaped) 75 (confined_attempt c) (any_answer shaped (λ w. w) (λ e. tt)) (confined_part shaped c h)

pub looked_shaped : (level : ℕ) (c : Cpu) → Shaped c → Shaped (looked level c)
looked_shaped level c h = looked_holds shaped level c h

pub trace_shaped : (b : Bool) (c : Cpu) → Shaped c → Shaped (trace_falls b c)
trace_shaped b c h = trace_holds shaped b c h

pub timed_shaped : (c : Cpu) (s : Stepped) → Shaped s.cpu → Shaped (timed c s)
timed_shaped c s h = timed_holds shaped c s h
