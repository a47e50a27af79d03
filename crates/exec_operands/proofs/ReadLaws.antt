-- The ways out of reading an operand.
-- Assumes nothing.
use Prim.Native.Nat.{ℕ, ◌%◌, ◌<◌, ◌≤◌, ◌^◌}
use mathlib.Core.Path.{◌≡◌, refl, sym, ap, ◌∙◌}
use mathlib.Core.Bool.{Bool, true, false}
use native.Mathlib.Omega.{arith}
use lib.ListN.{length, get_or-eq_default}
use Rattle.word.specs.declared.Width.{Width}
use Rattle.isa.specs.declared.Mode.{Mode}
use Rattle.isa.specs.declared.Operand.{Operand}
use Rattle.isa.specs.declared.Operand.TheVariants.{General, Register}
use Rattle.isa.specs.declared.Wide.{Wide}
use Rattle.memory.specs.Answers.{good, answer_of}
use Rattle.access_spec.specs.Access.{response}
use Rattle.access_spec.specs.Program.{interpret}
use Rattle.access_spec.specs.Journal.{Journaled, logging}
use Rattle.machine.specs.Registers.{Bank, word, register_of}
use Rattle.machine.specs.Cache.{Cache}
use Rattle.machine.specs.Status.{cpu}
use Rattle.datapath.specs.Parts.{Out, ok, done}
use Rattle.datapath.specs.Data.{read_data}
use Rattle.datapath.specs.Code.{value_out}
use Rattle.datapath.proofs.PartLaws.{goes, stops_giving}
use Rattle.exec_spec.specs.Operands.{mode_kind, width_of, expanded, in_memory, locate, read_place, read_operand}
use Rattle.exec_operands.specs.Code.{is_constant, general_at, place_at, placed}

pub word_past : (b : Bank) (k : ℕ) → length b ≡ 17 → 17 ≤ k → 0 ≡ word b k
word_past b k e h = sym (get_or-eq_default b 0 {n = k} (omega arith))

module _ (b s : Bank) (q : Cache) (m : Mode) (a x : ℕ) (w : Width) (ew : w ≡ width_of m) (t u : Journaled)
    (e : response (value_out (answer_of x) s q) u ≡ interpret logging (read_data (cpu b q) w a) t) where
  pub expanded_fault : 2 ^ 32 ≤ x → response (value_out (answer_of x) s q) u ≡ interpret logging (read_place (cpu b q) (in_memory m a)) t
  unfolding read_place
  expanded_fault h = stops_giving (λ v. v) s q x (read_data (cpu b q) (width_of m) a) (λ v. done (expanded m v)) t u (rw ew at e) (λ v. v) h

  pub expanded_read : x < 2 ^ 32 → (l y z : ℕ) → l ≡ x % 2 ^ 32 → y ≡ expanded m l → answer_of z ≡ good y
      → response (value_out (answer_of z) s q) u ≡ interpret logging (read_place (cpu b q) (in_memory m a)) t
  unfolding read_place interpret
  expanded_read h l y z el ey ez =
      ap (λ (o : Out ℕ). response o u) value ∙ sym (goes (λ v. v) s q x (read_data (cpu b q) (width_of m) a) (λ v. done (expanded m v)) t u (rw ew at e) h)
    where
      value : value_out (answer_of z) s q ≡ ok (expanded m (x % 2 ^ 32))
      value = rw (ez, ey, el) refl

module _ (b s : Bank) (q : Cache) (m : Mode) (v a x : ℕ) (k : Bool) (ek : k ≡ is_constant (mode_kind m)) (t u : Journaled) where
  pub constant_read : k ≡ true → answer_of x ≡ good v → response (value_out (answer_of x) b q) t ≡ interpret logging (read_place (cpu b q) (general_at (mode_kind m) m v a)) t
  unfolding read_place interpret
  constant_read h ex = rw (sym ek ∙ h, ex) refl

  pub memory_read : k ≡ false → response (value_out (answer_of x) s q) u ≡ interpret logging (read_place (cpu b q) (in_memory m a)) t
      → response (value_out (answer_of x) s q) u ≡ interpret logging (read_place (cpu b q) (general_at (mode_kind m) m v a)) t
  memory_read h e = rw (sym ek ∙ h) e

module _ (b s : Bank) (q : Cache) (o : Operand) (a x : ℕ) (t u : Journaled) where
  pub general_read : (m : Mode) (v : ℕ) → o ≡ General m v
      → response (value_out (answer_of x) s q) u ≡ interpret logging (read_place (cpu b q) (general_at (mode_kind m) m v a)) t
      → response (value_out (answer_of x) s q) u ≡ interpret logging (read_place (cpu b q) (place_at o a)) t
  general_read m v h e = rw h e

  pub register_read : (n k y : ℕ) → o ≡ Register n → k ≡ register_of n → y ≡ word b k → answer_of x ≡ good y
      → response (value_out (answer_of x) b q) t ≡ interpret logging (read_place (cpu b q) (place_at o a)) t
  unfolding read_place interpret
  register_read n k y h ek ey ex = rw (h, ex, ey, ek) refl

module _ (b s : Bank) (q : Cache) (w : Wide) (o : Operand) (x : ℕ) (t u : Journaled)
    (e : response (placed o (answer_of x) s q) u ≡ interpret logging (locate (cpu b q) w o) t) where
  pub operand_fault : 2 ^ 32 ≤ x → response (value_out (answer_of x) s q) u ≡ interpret logging (read_operand (cpu b q) w o) t
  unfolding read_operand
  operand_fault h = stops_giving (place_at o) s q x (locate (cpu b q) w o) (read_place (cpu b q)) t u e (λ v. v) h

  pub operand_read : x < 2 ^ 32 → s ≡ b → (l : ℕ) → l ≡ x % 2 ^ 32 → (z : ℕ) (r : Bank) (v : Journaled)
      → response (value_out (answer_of z) r q) v ≡ interpret logging (read_place (cpu s q) (place_at o l)) u
      → response (value_out (answer_of z) r q) v ≡ interpret logging (read_operand (cpu b q) w o) t
  unfolding read_operand
  operand_read h es l el z r v f =
      rw (es, el) at f ∙ sym (goes (place_at o) s q x (locate (cpu b q) w o) (read_place (cpu b q)) t u e h)
