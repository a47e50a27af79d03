-- Laws of tracing.
-- Assumes nothing.
use mathlib.Core.Path.{◌≡◌, sym, ap, ◌∙◌}
use mathlib.Core.Bool.{Bool, false, ◌||◌}
use Prim.Native.Nat.{ℕ}
use borrow.Author.Tests.{ne_eqb}
use Rattle.word.specs.Fields.{bit_of}
use Rattle.isa.specs.declared.Operand.{Operand}
use Rattle.isa.specs.declared.Wide.{Wide}
use Rattle.isa.specs.declared.MonadicMode.{MonadicMode}
use Rattle.exec_spec.specs.declared.Task.{Task}
use Rattle.exec_spec.specs.declared.Monadic.{Monadic}
use Rattle.exec_spec.specs.declared.Niladic.{Niladic}
use Rattle.exec_spec.specs.Execute.{traced, monadic_traced, niladic_traced}
use Rattle.step_spec.specs.Step.{traces_at}
use Rattle.exec_rows.specs.declared.Action.{Action}
use Rattle.exec_rows.specs.declared.Action.TheVariants.{Two, One, Zero}
use Rattle.exec_rows.specs.Rows.{action_of}
use Rattle.step_pending.specs.Traces.{traced_from}

-- an instruction by what it does
module _ (a : Action) where
  pub two_traced : (w : Wide) (t : Task) (s d : Operand) → a ≡ Two w t s d → traced_from 0 ≡ traced (action_of a)
  two_traced w t s d e = rw e

  pub one_traced : (o : Monadic) (m : MonadicMode) (v r : ℕ) → a ≡ One o m v → traced_from r ≡ monadic_traced o → traced_from r ≡ traced (action_of a)
  one_traced o m v r e h = h ∙ ap (λ (b : Action). traced (action_of b)) (sym e)

  pub none_traced : (o : Niladic) (r : ℕ) → a ≡ Zero o → traced_from r ≡ niladic_traced o → traced_from r ≡ traced (action_of a)
  none_traced o r e h = h ∙ ap (λ (b : Action). traced (action_of b)) (sym e)

-- the trace bits by the class
pub traces_always : (p k : ℕ) (t : Bool) → k ≡ 0 → t ≡ bit_of p 7 → t ≡ traces_at p (traced_from k)
traces_always p k t e f = rw (e, f)

pub traces_jumps : (p k : ℕ) (t u : Bool) → k ≡ 1 → t ≡ bit_of p 7 → u ≡ bit_of p 8 → (t || u) ≡ traces_at p (traced_from k)
traces_jumps p k t u e f g = rw (e, f, g)

pub traces_never : (p k : ℕ) → (k ≡ 0 → ⊥) → (k ≡ 1 → ⊥) → false ≡ traces_at p (traced_from k)
traces_never p k g h = simp (ne_eqb k 0 g, ne_eqb k 1 h)
