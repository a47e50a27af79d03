-- The ways out of finding operands.
-- Assumes nothing.
use Prim.Native.Nat.{ℕ, ◌%◌, ◌<◌, ◌≤◌, ◌^◌}
use mathlib.Core.Path.{◌≡◌, sym, ap, ◌∙◌}
use Rattle.isa.specs.declared.Operand.{Operand}
use Rattle.isa.specs.declared.Wide.{Wide}
use Rattle.memory.specs.Answers.{answer_of}
use Rattle.access_spec.specs.Access.{response}
use Rattle.access_spec.specs.Program.{Program, interpret}
use Rattle.access_spec.specs.Journal.{Journaled, logging}
use Rattle.machine.specs.Registers.{Bank}
use Rattle.machine.specs.Cache.{Cache}
use Rattle.machine.specs.Status.{Cpu, cpu}
use Rattle.datapath.specs.Parts.{Out, ◌>>=◌}
use Rattle.datapath.specs.Code.{value_out}
use Rattle.datapath.proofs.PartLaws.{goes, stops}
use Rattle.exec_spec.specs.Operands.{Place, locate, read_place, read_operand}
use Rattle.exec_operands.specs.Code.{place_at, placed, resumed}
use Rattle.exec_operands.proofs.RestLaws.{resumed_stop, resumed_goes, resumed_part}
use Rattle.exec_dyadic.specs.Code.{finding}

-- ---- the source and the destination's place

module _ (b s : Bank) (q : Cache) (w : Wide) (o d : Operand) (x : ℕ) (t u : Journaled)
    (e : response (value_out (answer_of x) s q) u ≡ interpret logging (read_operand (cpu b q) w o) t) (f : ℕ → Place → Program (Out Cpu)) where
  abbrev rest : ℕ → Program (Out Cpu)
  rest y = locate (cpu b q) w d >>= f y

  pub source_fault : (g : ℕ → Program (Out Cpu)) → 2 ^ 32 ≤ x → interpret logging (resumed g (answer_of x) s q) u ≡ interpret logging (finding (cpu b q) w o d f) t
  source_fault g h = resumed_stop g s q x u h ∙ sym (stops (λ v. v) s q x (read_operand (cpu b q) w o) rest t u e h)

  pub both_found : x < 2 ^ 32 → s ≡ b → (l : ℕ) → l ≡ x % 2 ^ 32 → (a : ℕ) (r : Bank) (v : Journaled)
      → response (placed d (answer_of a) r q) v ≡ interpret logging (locate (cpu s q) w d) u
      → interpret logging (resumed (λ y. f l (place_at d y)) (answer_of a) r q) v ≡ interpret logging (finding (cpu b q) w o d f) t
  both_found h es l el a r v k =
      resumed_part (place_at d) (f l) r q a (locate (cpu b q) w d) u v (k ∙ ap (λ (y : Bank). interpret logging (locate (cpu y q) w d) u) es)
      ∙ ap (λ (y : ℕ). interpret logging (rest y) u) el
      ∙ sym (goes (λ v. v) s q x (read_operand (cpu b q) w o) rest t u e h)

-- ---- and the destination's value: P is the whole, and y its source

module _ (b s : Bank) (q : Cache) (d : Operand) (x : ℕ) (P : Program (Out Cpu)) (t u : Journaled) (f : Place → ℕ → Program (Out Cpu))
    (e : interpret logging (resumed (λ a. read_place (cpu b q) (place_at d a) >>= f (place_at d a)) (answer_of x) s q) u ≡ interpret logging P t) where
  pub place_fault : (g : ℕ → Program (Out Cpu)) → 2 ^ 32 ≤ x → interpret logging (resumed g (answer_of x) s q) u ≡ interpret logging P t
  place_fault g h = resumed_stop g s q x u h ∙ sym (resumed_stop _ s q x u h) ∙ e

  pub both_read : x < 2 ^ 32 → s ≡ b → (l : ℕ) → l ≡ x % 2 ^ 32 → (a : ℕ) (r : Bank) (v : Journaled)
      → response (value_out (answer_of a) r q) v ≡ interpret logging (read_place (cpu s q) (place_at d l)) u
      → interpret logging (resumed (f (place_at d l)) (answer_of a) r q) v ≡ interpret logging P t
  both_read h es l el a r v k =
      resumed_part (λ y. y) (f (place_at d l)) r q a (read_place (cpu b q) (place_at d l)) u v
      (k ∙ ap (λ (y : Bank). interpret logging (read_place (cpu y q) (place_at d l)) u) es)
      ∙ ap (λ (y : ℕ). interpret logging (read_place (cpu b q) (place_at d y) >>= f (place_at d y)) u) el
      ∙ sym (resumed_goes _ s q x u h) ∙ e
