-- Laws that other crates cite, and the ways out of an instruction's action.
-- Assumes nothing.
use mathlib.Core.Path.{◌≡◌, sym, ap, ◌∙◌}
use Prim.Native.Nat.{ℕ}
use Rattle.isa.specs.declared.ShortRow.{ShortRow}
use Rattle.isa.specs.declared.Instruction.{Instruction}
use Rattle.isa.specs.declared.Instruction.TheVariants as instruction
use Rattle.isa.specs.declared.ShortInstruction.{ShortInstruction}
use Rattle.exec_spec.specs.Execute.{Normal, short_normal, normal}
use Rattle.exec_rows.specs.declared.Action.{Action}
use Rattle.exec_rows.specs.declared.ShortForm.{ShortForm}
use Rattle.exec_rows.specs.Rows.{formed, action_of}

-- a one-parcel row with its operands
pub formed_at : (f : ShortForm) (row : ShortRow) (s d : ℕ) → formed f ≡ short_normal row → formed f s d ≡ short_normal row s d
formed_at f row s d e = ap (λ (g : ℕ → ℕ → Normal). g s d) e

-- an instruction by its class
module _ (i : Instruction) where
  pub action_short : (j : ShortInstruction) (f : ShortForm) (x : Action) → i ≡ instruction.Short j → formed f ≡ short_normal j.row
      → action_of x ≡ formed f j.source j.destination → action_of x ≡ normal i
  action_short j f x e g h = h ∙ formed_at f j.row j.source j.destination g ∙ ap normal (sym e)
