-- Laws of programs over any world.
-- Assumes nothing.
use mathlib.Core.Path.{◌≡◌, refl}
use Rattle.access_spec.specs.Access.{Response}
use Rattle.access_spec.specs.Program.{Program, ret, ask, Handler, interpret, after}

-- one program after another is interpreted one after another
pub interpret_after : {W A B : Type 0} (h : Handler W) (p : Program A) (f : A → Program B) (w : W)
    → interpret h (after p f) w ≡ interpret h (f (interpret h p w).out) (interpret h p w).world
unfolding interpret after
interpret_after h (ret a) f w = refl
interpret_after h (ask q k) f w = interpret_after h (k (h q w).out) f (h q w).world

-- two worlds that answer every access alike, and stay related, let every program end alike
module _ {U W : Type 0} (R : U → W → Type 0) where
  pub record Alike {A : Type 0} (x : Response U A) (y : Response W A) : Type 0 where
    pub out : x.out ≡ y.out
    pub world : R x.world y.world
