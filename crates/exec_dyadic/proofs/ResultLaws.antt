-- The ways out of results and comparisons.
-- Assumes nothing.
use Prim.Native.Nat.{ℕ, ◌%◌, ◌<◌, ◌≤◌, ◌^◌}
use mathlib.Core.Path.{◌≡◌, refl, sym, ap, ◌∙◌}
use mathlib.Core.Bool.{Bool, true, false, ◌&&◌}
use lib.Dec.{eqb}
use Rattle.memory.specs.Answers.{good, raised, answer_of}
use Rattle.memory.proofs.AnswerLaws.{answer_low}
use Rattle.access_spec.specs.Access.{Response, response}
use Rattle.access_spec.specs.Program.{Program, interpret, after}
use Rattle.access_spec.specs.Journal.{Journaled, logging}
use Rattle.machine.specs.Registers.{Bank}
use Rattle.machine.specs.Cache.{Cache}
use Rattle.machine.specs.Status.{Cpu, cpu}
use Rattle.datapath.specs.Parts.{Out, ok, onward, done, ◌>>=◌}
use Rattle.datapath.specs.Code.{cpu_out}
use Rattle.datapath.proofs.PartLaws.{ended_goes, ended_stops}
use Rattle.exec_spec.specs.declared.Operation.{Operation}
use Rattle.exec_spec.specs.declared.Relation.{Relation}
use Rattle.exec_spec.specs.Alu.{Result, divides, related, with_flag}
use Rattle.exec_spec.specs.Dyadic.{check_divisor}
use Rattle.exec_operands.specs.Code.{resumed}
use Rattle.exec_operands.proofs.RestLaws.{finished, rest_goes}

compared : (s r : Bank) (q : Cache) (z : ℕ) (u : Journaled) (f g : Bool) → f ≡ g → ((k : Cache) → cpu r k ≡ with_flag (cpu s k) f)
    → answer_of z ≡ good 0 → response (cpu_out (answer_of z) r q) u ≡ interpret logging (done (with_flag (cpu s q) g)) u
compared s r q z u f g e w ez = finished r q z u (with_flag (cpu s q) g) ez (w q ∙ ap (λ (h : Bool). with_flag (cpu s q) h) e)

-- CMP after its operands: y is the source, l the destination
pub compare_done : (b s : Bank) (q : Cache) (x : ℕ) (P : Program (Out Cpu)) (t u : Journaled) (r : Relation) (y : ℕ)
    → interpret logging (resumed (λ v. done (with_flag (cpu b q) (related r y v))) (answer_of x) s q) u ≡ interpret logging P t
    → x < 2 ^ 32 → s ≡ b → (l : ℕ) → l ≡ x % 2 ^ 32 → (f : Bool) → f ≡ related r y l → (n : Bank) → ((k : Cache) → cpu n k ≡ with_flag (cpu s k) f)
    → (z : ℕ) → answer_of z ≡ good 0 → response (cpu_out (answer_of z) n q) u ≡ interpret logging P t
compare_done b s q x P t u r y e h es l el f ef n w z ez =
    rest_goes b s q x P t u (λ c v. done (with_flag c (related r y v))) e h es l el (response (cpu_out (answer_of z) n q) u)
    (compared s n q z u f (related r y l) ef w ez)

-- ---- a word written by p, and what follows it

module _ (p : ℕ → Program (Out Cpu)) (g : Cpu → Program (Out Cpu)) (v y : ℕ) (ev : v ≡ y) (s : Bank) (k : Cache) (z : ℕ) (t u : Journaled)
    (e : response (cpu_out (answer_of z) s k) u ≡ interpret logging (p v) t) where
  same : response (cpu_out (answer_of z) s k) u ≡ interpret logging (p y) t
  same = e ∙ ap (λ (x : ℕ). interpret logging (p x) t) ev

  pub word_fault : 2 ^ 32 ≤ z → response (cpu_out (answer_of z) s k) u ≡ interpret logging (p y >>= g) t
  word_fault h = ended_stops s k z (p y) g t u same h

  pub word_then : z < 2 ^ 32 → (R : Response Journaled (Out Cpu)) → R ≡ interpret logging (g (cpu s k)) u → R ≡ interpret logging (p y >>= g) t
  word_then h R f = f ∙ sym (ended_goes s k z (p y) g t u same h)

-- the machine changes after it
pub word_done : (p : ℕ → Program (Out Cpu)) (F : Cpu → Cpu) (v y : ℕ) → v ≡ y → (s : Bank) (k : Cache) (z : ℕ) (t u : Journaled)
    → response (cpu_out (answer_of z) s k) u ≡ interpret logging (p v) t → z < 2 ^ 32 → (r : Bank) → cpu r k ≡ F (cpu s k)
    → response (cpu_out (answer_of z) r k) u ≡ interpret logging (p y >>= (λ c. done (F c))) t
unfolding interpret
word_done p F v y ev s k z t u e h r f =
    rw (answer_low z h) (ap (λ (d : Cpu). response (ok d) u) f) ∙ sym (ended_goes s k z (p y) (λ c. done (F c)) t u (e ∙ ap (λ (x : ℕ). interpret logging (p x) t) ev) h)

-- ---- a divisor of 0, and what follows another

module _ (b : Bank) (q : Cache) (op : Operation) (x : ℕ) (t : Journaled) (n : Bool) (en : n ≡ divides op) where
  pub divisor_zero : (g : Cpu → Program (Out Cpu)) (z : ℕ) → (n && eqb x 0) ≡ true → answer_of z ≡ raised 1
      → response (cpu_out (answer_of z) b q) t ≡ interpret logging (check_divisor (cpu b q) op x >>= g) t
  unfolding check_divisor ◌>>=◌ after onward interpret
  divisor_zero g z h ez = rw (ez, ← en, h) refl

  pub divisor_other : (g : Cpu → Result → Program (Out Cpu)) (r y : Result) → (n && eqb x 0) ≡ false → r ≡ y
      → (R : Response Journaled (Out Cpu)) → R ≡ interpret logging (g (cpu b q) r) t
      → R ≡ interpret logging (check_divisor (cpu b q) op x >>= (λ c. g c y)) t
  unfolding check_divisor ◌>>=◌ after onward interpret
  divisor_other g r y h er R f = f ∙ ap (λ (w : Result). interpret logging (g (cpu b q) w) t) er ∙ rw (← en, h) refl
