-- The ways out of finding an operand.
-- Assumes nothing.
use Prim.Native.Nat.{ℕ}
use mathlib.Core.Path.{◌≡◌, refl, ap}
use mathlib.Core.Bool.{Bool}
use mathlib.Core.List.{[]}
use Rattle.word.specs.declared.Width.TheVariants.{Word}
use Rattle.isa.specs.declared.Mode.{Mode}
use Rattle.isa.specs.declared.Operand.{Operand}
use Rattle.isa.specs.declared.Operand.TheVariants.{General, Register}
use Rattle.isa.specs.declared.Wide.{Wide}
use Rattle.memory.specs.Answers.{Answer, good, raised, answer_of}
use Rattle.access_spec.specs.Access.{response}
use Rattle.access_spec.specs.Program.{interpret}
use Rattle.access_spec.specs.Journal.{Journaled, logging}
use Rattle.machine.specs.Registers.{Bank, word}
use Rattle.machine.specs.Cache.{Cache}
use Rattle.machine.specs.Status.{cpu}
use Rattle.datapath.specs.Parts.{ok, onward, done}
use Rattle.datapath.specs.Data.{read_data}
use Rattle.datapath.specs.Code.{value_out}
use Rattle.datapath.proofs.BindLaws.{bind}
use Rattle.exec_spec.specs.Operands.{mode_kind, stack_address, in_memory, located, locate, absolute_on}
use Rattle.exec_alu.specs.declared.OperandKind.{OperandKind}
use Rattle.exec_alu.specs.declared.OperandKind.TheVariants.{Absolute, Offset, Indirect, Constant}
use Rattle.exec_alu.specs.Modes.{kind_from}
use Rattle.exec_operands.specs.Code.{is_constant, placed}

pub kind_known : (m : Mode) (k j : OperandKind) (x : Bool) → kind_from k ≡ mode_kind m → k ≡ j → x ≡ is_constant (kind_from j) → x ≡ is_constant (mode_kind m)
kind_known m k j x e h f = rw (← e, h) f

module _ (b : Bank) (q : Cache) (w : Wide) (m : Mode) (v : ℕ) (t : Journaled) (k : OperandKind) (ek : kind_from k ≡ mode_kind m) (x : ℕ) where
  pub located_absolute : k ≡ Absolute → (a : ℕ) → a ≡ absolute_on (word b 0) (word b 5) w v → answer_of x ≡ good a
      → response (placed (General m v) (answer_of x) b q) t ≡ interpret logging (located (cpu b q) w (mode_kind m) m v) t
  unfolding located interpret
  located_absolute h a ea ex = rw (ex, ← ek, h) (ap (λ (y : ℕ). response (ok (in_memory m y)) t) ea)

  pub located_offset : k ≡ Offset → (a : ℕ) → a ≡ stack_address (cpu b []) v → answer_of x ≡ good a
      → response (placed (General m v) (answer_of x) b q) t ≡ interpret logging (located (cpu b q) w (mode_kind m) m v) t
  unfolding located interpret
  located_offset h a ea ex = rw (ex, ← ek, h) (ap (λ (y : ℕ). response (ok (in_memory m y)) t) ea)

  pub located_constant : k ≡ Constant → answer_of x ≡ good 0
      → response (placed (General m v) (answer_of x) b q) t ≡ interpret logging (located (cpu b q) w (mode_kind m) m v) t
  unfolding located interpret
  located_constant h ex = rw (ex, ← ek, h) refl

  pub located_indirect : k ≡ Indirect → (a : ℕ) → a ≡ stack_address (cpu b []) v → (s : Bank) (u : Journaled)
      → response (value_out (answer_of x) s q) u ≡ interpret logging (read_data (cpu b q) Word a) t
      → response (placed (General m v) (answer_of x) s q) u ≡ interpret logging (located (cpu b q) w (mode_kind m) m v) t
  unfolding located interpret onward
  located_indirect h a ea s u e =
      rw (← ek, h, ← ea, bind (read_data (cpu b q) Word a) (λ y. done (in_memory m y)) t, ← e) (go (answer_of x))
    where
      go : (z : Answer) → response (placed (General m v) z s q) u ≡ interpret logging (onward (λ y. done (in_memory m y)) (value_out z s q)) u
      go (good y) = rw (← ek, h) refl
      go (raised y) = refl

module _ (b s : Bank) (q : Cache) (w : Wide) (o : Operand) (x : ℕ) (t u : Journaled) where
  pub located_general : (m : Mode) (v : ℕ) → o ≡ General m v
      → response (placed (General m v) (answer_of x) s q) u ≡ interpret logging (located (cpu b q) w (mode_kind m) m v) t
      → response (placed o (answer_of x) s q) u ≡ interpret logging (locate (cpu b q) w o) t
  unfolding locate
  located_general m v h e = rw h e

  pub located_register : (n : ℕ) → o ≡ Register n → answer_of x ≡ good 0 → response (placed o (answer_of x) b q) t ≡ interpret logging (locate (cpu b q) w o) t
  unfolding locate interpret
  located_register n h ex = rw (h, ex) refl
