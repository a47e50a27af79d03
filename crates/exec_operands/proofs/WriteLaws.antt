-- The ways out of writing an operand.
-- Assumes nothing.
use Prim.Native.Nat.{ℕ}
use mathlib.Core.Path.{◌≡◌, refl, sym, ap, ◌∙◌}
use mathlib.Core.Bool.{Bool, true, false}
use mathlib.Core.List.{[]}
use Rattle.word.specs.declared.Width.{Width}
use Rattle.word.specs.declared.Width.TheVariants.{Word}
use Rattle.isa.specs.declared.Mode.{Mode}
use Rattle.isa.specs.declared.Operand.{Operand}
use Rattle.isa.specs.declared.Operand.TheVariants.{General, Register}
use Rattle.memory.specs.Answers.{good, answer_of}
use Rattle.access_spec.specs.Access.{response}
use Rattle.access_spec.specs.Program.{interpret}
use Rattle.access_spec.specs.Journal.{Journaled, logging}
use Rattle.machine.specs.Registers.{Bank, register_of}
use Rattle.machine.specs.Cache.{Cache}
use Rattle.machine.specs.Status.{Cpu, cpu}
use Rattle.datapath.specs.Parts.{ok}
use Rattle.datapath.specs.Data.{write_data}
use Rattle.datapath.specs.Code.{cpu_out}
use Rattle.exec_spec.specs.Operands.{mode_kind, width_of, stack_address, write_register, write_place, write_accumulator}
use Rattle.exec_operands.specs.Code.{is_constant, general_at, place_at}

pub accumulator_written : (b s : Bank) (q k : Cache) (v a x : ℕ) (t u : Journaled) → a ≡ stack_address (cpu b []) 4
    → response (cpu_out (answer_of x) s k) u ≡ interpret logging (write_data (cpu b q) Word a v) t
    → response (cpu_out (answer_of x) s k) u ≡ interpret logging (write_accumulator (cpu b q) v) t
unfolding write_accumulator
accumulator_written b s q k v a x t u ea e = rw ea at e

module _ (b s : Bank) (q p : Cache) (m : Mode) (y a v x : ℕ) (k : Bool) (ek : k ≡ is_constant (mode_kind m)) (t u : Journaled) where
  pub constant_written : k ≡ true → answer_of x ≡ good 0 → response (cpu_out (answer_of x) b q) t ≡ interpret logging (write_place (cpu b q) (general_at (mode_kind m) m y a) v) t
  unfolding write_place interpret
  constant_written h ex = rw (sym ek ∙ h, ex) refl

  pub memory_written : k ≡ false → (w : Width) → w ≡ width_of m → response (cpu_out (answer_of x) s p) u ≡ interpret logging (write_data (cpu b q) w a v) t
      → response (cpu_out (answer_of x) s p) u ≡ interpret logging (write_place (cpu b q) (general_at (mode_kind m) m y a) v) t
  unfolding write_place
  memory_written h w ew e = rw (sym ek ∙ h, ← ew) e

module _ (b s : Bank) (q p : Cache) (o : Operand) (a v x : ℕ) (t u : Journaled) where
  pub general_written : (m : Mode) (y : ℕ) → o ≡ General m y
      → response (cpu_out (answer_of x) s p) u ≡ interpret logging (write_place (cpu b q) (general_at (mode_kind m) m y a) v) t
      → response (cpu_out (answer_of x) s p) u ≡ interpret logging (write_place (cpu b q) (place_at o a) v) t
  general_written m y h e = rw h e

  pub register_written_law : (n k : ℕ) → o ≡ Register n → k ≡ register_of n → ((c : Cache) → cpu s c ≡ write_register (cpu b c) k v) → answer_of x ≡ good 0
      → response (cpu_out (answer_of x) s q) t ≡ interpret logging (write_place (cpu b q) (place_at o a) v) t
  unfolding write_place interpret
  register_written_law n k h ek w ex = rw (h, ex, ← ek) (ap (λ (d : Cpu). response (ok d) t) (w q))
