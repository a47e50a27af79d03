-- From the journal back to memory alone: what a program gives, and what undoing it leaves.
-- Assumes nothing.
use Prim.Native.Nat.{ℕ, ◌*◌, ◌%◌, ◌≤◌}
use mathlib.Core.Path.{◌≡◌, refl, ap, ◌∙◌}
use native.Mathlib.Omega.{arith}
use lib.ListN.{set, length, length-set}
use lib.Seq.{get_or-set_same}
use Rattle.memory.specs.Bytes.{Memory}
use Rattle.access_spec.specs.Access.{Response, response}
use Rattle.access_spec.specs.Program.{Program, interpret, plain}
use Rattle.access_spec.specs.Journal.{Journal, count, undone, undo, Journaled, journaled, logging}
use Rattle.access_spec.proofs.BoundedLaws.{Bounded, Any}
use Rattle.access_spec.proofs.ByteLaws.{Bytes}
use Rattle.access_spec.proofs.UndoingLaws.{interpret_memory, Undoing, interpret_undoing}

pub plainly : {A : Type 0} (p : Program A) (a : A) (t u : Journaled) → response a u ≡ interpret logging p t → response a u.memory ≡ interpret plain p t.memory
plainly {A = A} p a t u e =
    ap (λ (g : Response Journaled A). response g.out g.world.memory) e
    ∙ ap (λ (x : A). response x (interpret logging p t).world.memory) (interpret_memory p t).0
    ∙ ap (λ (m : Memory). response (interpret plain p t.memory).out m) (interpret_memory p t).1

-- a journal without entries undoes nothing
begun_undone : (j : Journal) (m : Memory) → length j ≡ 201 → undo (set j 0 0) m ≡ m
unfolding undo undone
begun_undone j m h = rw (get_or-set_same j 0 0 0 (rw h (omega arith))) refl

abbrev pub Long : Memory → Journal → Type 0
Long m j = (length m % 4 ≡ 0) × (length j ≡ 201)

-- a program of at most a hundred accesses, from an empty journal x₀ on
module _ {A : Type 0} (n : ℕ) (p : Program A) (a : A) (m : Memory) (x : Journal) (k : Memory) (y : Journal) (b : Bounded Any Any n p) (h : n ≤ 100)
    (f : Long m x) (bytes : Bytes m) (x₀ : Journal) (ex : x₀ ≡ set x 0 0) (e : response a (journaled k y) ≡ interpret logging p (journaled m x₀)) where
  abbrev undoing : Undoing (journaled m (set x 0 0)) (journaled k y) (2 * n)
  undoing =
      rw (ap (λ (g : Response Journaled A). g.world) (e ∙ ap (λ (l : Journal). interpret logging p (journaled m l)) ex))
      (interpret_undoing Any Any n p (journaled m (set x 0 0)) b bytes (length-set x 0 0 ∙ f.1) f.0 (rw none (omega (arith, h))))
    where
      none : count (set x 0 0) ≡ 0
      none = get_or-set_same x 0 0 0 (rw f.1 (omega arith))

  pub put_back : undo y k ≡ m
  put_back = undoing.undoes ∙ begun_undone x m f.1

  pub still_long : length y ≡ 201
  still_long = undoing.sized
