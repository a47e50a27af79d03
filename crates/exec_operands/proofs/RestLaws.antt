-- What follows a part of an instruction: the rest with its value, or the exception.
-- Assumes nothing.
use Prim.Native.Nat.{ℕ, ◌%◌, ◌<◌, ◌≤◌, ◌^◌}
use mathlib.Core.Path.{◌≡◌, refl, sym, ap, ◌∙◌}
use Rattle.memory.specs.Answers.{Answer, good, raised, answer_of}
use Rattle.memory.proofs.AnswerLaws.{answer_low, answer_high}
use Rattle.access_spec.specs.Access.{Response, response}
use Rattle.access_spec.specs.Program.{Program, interpret}
use Rattle.access_spec.specs.Journal.{Journaled, logging}
use Rattle.machine.specs.Registers.{Bank}
use Rattle.machine.specs.Cache.{Cache}
use Rattle.machine.specs.Status.{Cpu, cpu}
use Rattle.datapath.specs.Parts.{Out, ok, stop, onward, done, ◌>>=◌}
use Rattle.datapath.specs.Code.{cpu_out, giving}
use Rattle.datapath.proofs.BindLaws.{bind}
use Rattle.datapath.proofs.PartLaws.{goes, stops_ended}
use Rattle.exec_operands.specs.Code.{resumed}

-- a part that ended well, with the machine as it then is
pub finished : (s : Bank) (q : Cache) (z : ℕ) (u : Journaled) (c : Cpu) → answer_of z ≡ good 0 → cpu s q ≡ c
    → response (cpu_out (answer_of z) s q) u ≡ interpret logging (done c) u
unfolding interpret
finished s q z u c ez e = rw ez (ap (λ (d : Cpu). response (ok d) u) e)

-- a part, and the rest of an instruction by the machine and what the part gave
module _ {A : Type 0} (f : ℕ → A) (b s : Bank) (q : Cache) (x : ℕ) (p : Program (Out A)) (t u : Journaled)
    (e : response (giving f (answer_of x) s q) u ≡ interpret logging p t) (T : Cpu → A → Program (Out Cpu)) where
  pub part_stops : 2 ^ 32 ≤ x → response (cpu_out (answer_of x) s q) u ≡ interpret logging (p >>= T (cpu b q)) t
  part_stops h = stops_ended f s q x p (T (cpu b q)) t u e h

  pub part_goes : x < 2 ^ 32 → s ≡ b → (l : ℕ) → l ≡ x % 2 ^ 32 → (R : Response Journaled (Out Cpu)) → R ≡ interpret logging (T (cpu s q) (f l)) u
      → R ≡ interpret logging (p >>= T (cpu b q)) t
  part_goes h es l el R k =
      k ∙ ap (λ (y : Bank). interpret logging (T (cpu y q) (f l)) u) es ∙ ap (λ (y : ℕ). interpret logging (T (cpu b q) (f y)) u) el
      ∙ sym (goes f s q x p (T (cpu b q)) t u e h)

-- ---- what follows an answer

module _ (g : ℕ → Program (Out Cpu)) (s : Bank) (q : Cache) (x : ℕ) (u : Journaled) where
  pub resumed_stop : 2 ^ 32 ≤ x → interpret logging (resumed g (answer_of x) s q) u ≡ response (stop (x % 2 ^ 32) (cpu s q)) u
  unfolding interpret
  resumed_stop h = rw (answer_high x h) refl

  pub resumed_ends : 2 ^ 32 ≤ x → response (cpu_out (answer_of x) s q) u ≡ interpret logging (resumed g (answer_of x) s q) u
  unfolding interpret
  resumed_ends h = rw (answer_high x h) refl

  pub resumed_goes : x < 2 ^ 32 → interpret logging (resumed g (answer_of x) s q) u ≡ interpret logging (g (x % 2 ^ 32)) u
  resumed_goes h = rw (answer_low x h) refl

resumed_onward : {A : Type 0} (f : ℕ → A) (g : A → Program (Out Cpu)) (s : Bank) (q : Cache) (u : Journaled) (z : Answer)
    → interpret logging (resumed (λ a. g (f a)) z s q) u ≡ interpret logging (onward g (giving f z s q)) u
unfolding onward interpret
resumed_onward f g s q u (good v) = refl
resumed_onward f g s q u (raised e) = refl

-- a part that is read last: what follows it follows the part
pub resumed_part : {A : Type 0} (f : ℕ → A) (g : A → Program (Out Cpu)) (s : Bank) (q : Cache) (x : ℕ) (p : Program (Out A)) (t u : Journaled)
    → response (giving f (answer_of x) s q) u ≡ interpret logging p t
    → interpret logging (resumed (λ a. g (f a)) (answer_of x) s q) u ≡ interpret logging (p >>= g) t
resumed_part f g s q x p t u e =
    resumed_onward f g s q u (answer_of x)
    ∙ ap (λ (o : Response Journaled (Out _)). interpret logging (onward g o.out) o.world) e
    ∙ sym (bind p g t)

-- ---- an instruction after its operands: T is its rest by the machine and the last answer

module _ (b s : Bank) (q : Cache) (x : ℕ) (P : Program (Out Cpu)) (t u : Journaled) (T : Cpu → ℕ → Program (Out Cpu))
    (e : interpret logging (resumed (T (cpu b q)) (answer_of x) s q) u ≡ interpret logging P t) where
  pub rest_faults : (g : ℕ → Program (Out Cpu)) → 2 ^ 32 ≤ x → interpret logging (resumed g (answer_of x) s q) u ≡ interpret logging P t
  rest_faults g h = resumed_stop g s q x u h ∙ sym (resumed_stop (T (cpu b q)) s q x u h) ∙ e

  pub rest_stops : 2 ^ 32 ≤ x → response (cpu_out (answer_of x) s q) u ≡ interpret logging P t
  rest_stops h = resumed_ends (T (cpu b q)) s q x u h ∙ e

  pub rest_goes : x < 2 ^ 32 → s ≡ b → (l : ℕ) → l ≡ x % 2 ^ 32 → (R : Response Journaled (Out Cpu)) → R ≡ interpret logging (T (cpu s q) l) u
      → R ≡ interpret logging P t
  rest_goes h es l el R k =
      k ∙ ap (λ (y : Bank). interpret logging (T (cpu y q) l) u) es ∙ ap (λ (y : ℕ). interpret logging (T (cpu b q) y) u) el
      ∙ sym (resumed_goes (T (cpu b q)) s q x u h) ∙ e
