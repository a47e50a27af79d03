-- Parts of an instruction by the code's answers: with a value the rest goes on, with an exception it stops.
-- Assumes nothing.
use Prim.Native.Nat.{ℕ, ◌%◌, ◌^◌, ◌<◌, ◌≤◌}
use mathlib.Core.Path.{◌≡◌, refl, sym, ap, ◌∙◌}
use mathlib.Core.Bool.{cond, ◌||◌}
use native.Mathlib.Omega.{arith}
use lib.ListN.{set}
use lib.Dec.{eqb}
use Rattle.memory.specs.Answers.{answer_of}
use Rattle.memory.proofs.AnswerLaws.{answer_low, answer_high}
use Rattle.access_spec.specs.Access.{response}
use Rattle.access_spec.specs.Program.{Program, interpret}
use Rattle.access_spec.specs.Journal.{Journaled, logging}
use Rattle.machine.specs.Registers.{Bank}
use Rattle.machine.specs.Cache.{Cache}
use Rattle.machine.specs.Status.{Cpu, cpu}
use Rattle.datapath.specs.Parts.{Out, ok, stop, onward, ◌>>=◌, faulted, replied}
use Rattle.datapath.specs.Code.{write_out, cpu_out, giving, value_out}
use Rattle.datapath.proofs.BindLaws.{bind, faulted_bank}

pub not_both : (x : ℕ) → 2 ^ 32 ≤ x → x < 2 ^ 32 → ⊥
not_both x h l = omega arith

-- ---- parts that give a value

module _ {A : Type 0} (f : ℕ → A) (b : Bank) (q : Cache) (x : ℕ) where
  pub given : x < 2 ^ 32 → giving f (answer_of x) b q ≡ ok (f (x % 2 ^ 32))
  given h = rw (answer_low x h) refl

  pub halted : 2 ^ 32 ≤ x → giving f (answer_of x) b q ≡ stop (x % 2 ^ 32) (cpu b q)
  halted h = rw (answer_high x h) refl

pub ended_halted : (b : Bank) (q : Cache) (x : ℕ) → 2 ^ 32 ≤ x → cpu_out (answer_of x) b q ≡ stop (x % 2 ^ 32) (cpu b q)
ended_halted b q x h = rw (answer_high x h) refl

module _ {A B : Type 0} (f : ℕ → A) (b : Bank) (q : Cache) (x : ℕ) (p : Program (Out A)) (g : A → Program (Out B)) (t u : Journaled)
    (e : response (giving f (answer_of x) b q) u ≡ interpret logging p t) where
  pub goes : x < 2 ^ 32 → interpret logging (p >>= g) t ≡ interpret logging (g (f (x % 2 ^ 32))) u
  unfolding onward
  goes h = rw (bind p g t, ← e, given f b q x h) refl

  pub stops : 2 ^ 32 ≤ x → interpret logging (p >>= g) t ≡ response (stop (x % 2 ^ 32) (cpu b q)) u
  unfolding onward interpret
  stops h = rw (bind p g t, ← e, halted f b q x h) refl

  pub stops_giving : (k : ℕ → B) → 2 ^ 32 ≤ x → response (giving k (answer_of x) b q) u ≡ interpret logging (p >>= g) t
  stops_giving k h = ap (λ (o : Out B). response o u) (halted k b q x h) ∙ sym (stops h)

-- ---- parts that give a machine

module _ {A : Type 0} (f : ℕ → A) (b : Bank) (q : Cache) (x : ℕ) (p : Program (Out A)) (g : A → Program (Out Cpu)) (t u : Journaled)
    (e : response (giving f (answer_of x) b q) u ≡ interpret logging p t) where
  pub stops_ended : 2 ^ 32 ≤ x → response (cpu_out (answer_of x) b q) u ≡ interpret logging (p >>= g) t
  stops_ended h = ap (λ (o : Out Cpu). response o u) (ended_halted b q x h) ∙ sym (stops f b q x p g t u e h)

module _ (b : Bank) (q : Cache) (x : ℕ) (p : Program (Out Cpu)) (g : Cpu → Program (Out Cpu)) (t u : Journaled)
    (e : response (cpu_out (answer_of x) b q) u ≡ interpret logging p t) where
  pub ended_goes : x < 2 ^ 32 → interpret logging (p >>= g) t ≡ interpret logging (g (cpu b q)) u
  unfolding onward
  ended_goes h = rw (bind p g t, ← e, answer_low x h) refl

  pub ended_stops : 2 ^ 32 ≤ x → response (cpu_out (answer_of x) b q) u ≡ interpret logging (p >>= g) t
  unfolding onward interpret
  ended_stops h = rw (bind p g t, ← e, answer_high x h) refl

-- ---- an access, and FAULT as its fault leaves it

-- the bank that a fault at the address a leaves
abbrev pub fault_bank : Bank → ℕ → ℕ → Bank
fault_bank b x a = cond (eqb (x % 2 ^ 32) 8 || eqb (x % 2 ^ 32) 9) (set b 1 a) b

pub stopped : (b s : Bank) (q : Cache) (x a : ℕ) (u : Journaled) → 2 ^ 32 ≤ x → s ≡ fault_bank b x a
    → response (cpu_out (answer_of x) s q) u ≡ response (stop (x % 2 ^ 32) (faulted (cpu b q) (x % 2 ^ 32) a)) u
stopped b s q x a u h e = rw (answer_high x h, e, faulted_bank b q (x % 2 ^ 32) a) refl

module _ (b : Bank) (q : Cache) (x a : ℕ) (p : Program (Out ℕ)) (t u : Journaled) (e : response (replied (cpu b q) a (answer_of x)) u ≡ interpret logging p t) where
  pub load_fault : (s : Bank) → 2 ^ 32 ≤ x → s ≡ fault_bank b x a → (response (value_out (answer_of x) s q) u ≡ interpret logging p t) × (x < 2 ^ 32 → s ≡ b)
  load_fault s h f = (same ∙ e, λ l. absurd (not_both x h l))
    where
      same : response (value_out (answer_of x) s q) u ≡ response (replied (cpu b q) a (answer_of x)) u
      same = rw (answer_high x h, f, faulted_bank b q (x % 2 ^ 32) a) refl

  pub load_done : x < 2 ^ 32 → (response (value_out (answer_of x) b q) u ≡ interpret logging p t) × (x < 2 ^ 32 → b ≡ b)
  load_done h = (same ∙ e, λ l. refl)
    where
      same : response (value_out (answer_of x) b q) u ≡ response (replied (cpu b q) a (answer_of x)) u
      same = rw (answer_low x h) refl

module _ (b : Bank) (q : Cache) (x a : ℕ) (p : Program (Out Cpu)) (t u : Journaled) (e : response (write_out (cpu b q) a (answer_of x)) u ≡ interpret logging p t) where
  pub store_fault : (s : Bank) → 2 ^ 32 ≤ x → s ≡ fault_bank b x a → response (cpu_out (answer_of x) s q) u ≡ interpret logging p t
  store_fault s h f = same ∙ e
    where
      same : response (cpu_out (answer_of x) s q) u ≡ response (write_out (cpu b q) a (answer_of x)) u
      same = rw (answer_high x h, f, faulted_bank b q (x % 2 ^ 32) a) refl

  pub store_done : x < 2 ^ 32 → response (cpu_out (answer_of x) b q) u ≡ interpret logging p t
  store_done h = same ∙ e
    where
      same : response (cpu_out (answer_of x) b q) u ≡ response (write_out (cpu b q) a (answer_of x)) u
      same = rw (answer_low x h) refl
