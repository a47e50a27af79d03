-- Programs that ask for some accesses alone, in two worlds that answer those alike.
-- Assumes nothing.
use Prim.Native.Nat.{ℕ, zero, suc}
use mathlib.Core.Path.{refl}
use Rattle.access_spec.specs.Access.{Access}
use Rattle.access_spec.specs.Program.{Program, ret, ask, Handler, interpret}
use Rattle.access_spec.proofs.InterpretLaws.{Alike}
use Rattle.access_spec.proofs.BoundedLaws.{Bounded}

-- the worlds stay related, and the program ends alike
pub bounded_alike : {U W A : Type 0} (R : U → W → Type 0) (g : Handler U) (h : Handler W) (Q : Access → Type 0) (P : A → Type 0)
    → ((q : Access) → Q q → (v : U) (w : W) → R v w → Alike R (g q v) (h q w))
    → (n : ℕ) (p : Program A) → Bounded Q P n p → (v : U) (w : W) → R v w → Alike R (interpret g p v) (interpret h p w)
unfolding interpret
bounded_alike R g h Q P s n (ret a) b v w r = record { out = refl; world = r }
bounded_alike R g h Q P s zero (ask q k) b v w r = absurd b
bounded_alike R g h Q P s (suc n) (ask q k) b v w r =
    let t = s q b.0 v w r in
    rw (← t.out) (bounded_alike R g h Q P s n (k (g q v).out) (b.1 (g q v).out tt) (g q v).world (h q w).world t.world)
