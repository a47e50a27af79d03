-- The ways out of MOVA.
-- Assumes nothing.
use Prim.Native.Nat.{ℕ}
use mathlib.Core.Path.{◌≡◌, refl, sym, ap, ◌∙◌}
use mathlib.Core.Bool.{Bool, true, false}
use Rattle.isa.specs.declared.Mode.{Mode}
use Rattle.isa.specs.declared.Operand.{Operand}
use Rattle.isa.specs.declared.Operand.TheVariants.{General, Register}
use Rattle.isa.specs.declared.Wide.{Wide}
use Rattle.access_spec.specs.Access.{Response}
use Rattle.access_spec.specs.Program.{interpret}
use Rattle.access_spec.specs.Journal.{Journaled, logging}
use Rattle.machine.specs.Status.{Cpu}
use Rattle.datapath.specs.Parts.{Out}
use Rattle.exec_spec.specs.Operands.{mode_kind}
use Rattle.exec_spec.specs.Dyadic.{place_address, move_to}
use Rattle.exec_operands.specs.Code.{is_constant, general_at, place_at}

module _ (m : Mode) (v a : ℕ) (k : Bool) (ek : k ≡ is_constant (mode_kind m)) where
  pub constant_address : k ≡ true → v ≡ place_address (general_at (mode_kind m) m v a)
  constant_address h = rw (sym ek ∙ h) refl

  pub memory_address : k ≡ false → a ≡ place_address (general_at (mode_kind m) m v a)
  memory_address h = rw (sym ek ∙ h) refl

module _ (o : Operand) (a x : ℕ) where
  pub general_address : (m : Mode) (v : ℕ) → o ≡ General m v → x ≡ place_address (general_at (mode_kind m) m v a) → x ≡ place_address (place_at o a)
  general_address m v h e = rw h e

  pub register_address : (n : ℕ) → o ≡ Register n → 0 ≡ place_address (place_at o a)
  register_address n h = rw h refl

-- MOVA's word by its address
pub address_moved : (c : Cpu) (w : Wide) (d : Operand) (v y : ℕ) (u : Journaled) → v ≡ y → (R : Response Journaled (Out Cpu)) → R ≡ interpret logging (move_to c w d v) u
    → R ≡ interpret logging (move_to c w d y) u
address_moved c w d v y u e R f = f ∙ ap (λ (x : ℕ). interpret logging (move_to c w d x) u) e
