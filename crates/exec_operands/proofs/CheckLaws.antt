-- The ways out of the check of registers.
-- Assumes nothing.
use Prim.Native.Nat.{ℕ}
use mathlib.Core.Path.{◌≡◌, refl}
use mathlib.Core.Bool.{Bool, true, false, ◌&&◌, ◌||◌}
use lib.Dec.{eqb}
use Rattle.isa.specs.declared.Operand.{Operand}
use Rattle.isa.specs.declared.Operand.TheVariants.{Register}
use Rattle.isa.specs.Legal.{is_register}
use Rattle.memory.specs.Answers.{good, raised, answer_of}
use Rattle.access_spec.specs.Program.{ret}
use Rattle.machine.specs.Registers.{Bank, register_of}
use Rattle.machine.specs.Cache.{Cache}
use Rattle.machine.specs.Status.{cpu, is_user}
use Rattle.datapath.specs.Code.{cpu_out}
use Rattle.exec_spec.specs.Operands.{missing, check_registers}

pub missing_register : (o : Operand) (n k : ℕ) → o ≡ Register n → k ≡ register_of n → eqb k 17 ≡ missing o
missing_register o n k h e = rw (h, e) refl

module _ (b : Bank) (q : Cache) (s d : Operand) (z : ℕ) (u x y : Bool) (eu : u ≡ is_user b) (ex : x ≡ is_register s) (ey : y ≡ is_register d) where
  pub privilege_wanted : (u && (x || y)) ≡ true → answer_of z ≡ raised 5 → ret (cpu_out (answer_of z) b q) ≡ check_registers (cpu b q) s d
  unfolding check_registers
  privilege_wanted h ez = rw (ez, ← eu, ← ex, ← ey, h) refl

  module _ (h : (u && (x || y)) ≡ false) (v w : Bool) (ev : v ≡ missing s) (ew : w ≡ missing d) where
    pub register_wanted : (v || w) ≡ true → answer_of z ≡ raised 6 → ret (cpu_out (answer_of z) b q) ≡ check_registers (cpu b q) s d
    unfolding check_registers
    register_wanted g ez = rw (ez, ← eu, ← ex, ← ey, h, ← ev, ← ew, g) refl

    pub registers_there : (v || w) ≡ false → answer_of z ≡ good 0 → ret (cpu_out (answer_of z) b q) ≡ check_registers (cpu b q) s d
    unfolding check_registers
    registers_there g ez = rw (ez, ← eu, ← ex, ← ey, h, ← ev, ← ew, g) refl
