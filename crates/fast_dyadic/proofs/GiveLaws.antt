-- Parts that give a value, one after another.
-- Assumes nothing.
use Prim.Native.Nat.{ℕ, zero, suc, ◌^◌, ◌<◌}
use mathlib.Core.Path.{◌≡◌, refl, sym, ap, ◌∙◌}
use mathlib.Core.List.{List, [], ◌∷◌}
use lib.ListN.{get_or, set}
use Rattle.memory.specs.Answers.{good, answer_of}
use Rattle.memory.specs.Bytes.{Memory}
use Rattle.memory.proofs.AnswerLaws.{answer_got}
use Rattle.access_spec.specs.Access.{Response}
use Rattle.access_spec.specs.Program.{Program, interpret, plain}
use Rattle.access_spec.proofs.InterpretLaws.{interpret_after}
use Rattle.datapath.specs.Parts.{Out, onward, ◌>>=◌, done}
use Rattle.fast_dyadic.specs.Fast.{gives}

pub gives_then : {A B : Type 0} (p : Program (Out A)) (f : A → Program (Out B)) (m n l : Memory) (a : A) (b : B) → gives p m a n → gives (f a) n b l → gives (p >>= f) m b l
unfolding ◌>>=◌ onward
gives_then {A = A} p f m n l a b e g =
    interpret_after plain p (onward f) m ∙ ap (λ (k : Response Memory (Out A)). interpret plain (onward f k.out) k.world) e ∙ g

pub gives_done : {A : Type 0} (p : Program (Out A)) (a : A) → p ≡ done a → (m : Memory) → gives p m a m
unfolding interpret
gives_done p a e m = rw e refl

-- an answer with a value
pub good_is : (x v : ℕ) → answer_of x ≡ good v → x < 2 ^ 32 → v ≡ x
good_is x v e h = let z : good x ≡ good v = sym (answer_got x h) ∙ e in cc

-- a word put where it stands
pub set_same : (l : List ℕ) (k v : ℕ) → get_or l k 0 ≡ v → set l k v ≡ l
set_same [] k v e = refl
set_same (x ∷ l) zero v e = ap (λ (y : ℕ). y ∷ l) (sym e)
set_same (x ∷ l) (suc k) v e = ap (λ (r : List ℕ). x ∷ r) (set_same l k v e)
