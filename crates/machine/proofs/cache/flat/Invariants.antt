use Prim.Native.Nat.{◌-◌, ◌*◌}
use Rattle.machine.specs.Cache.{flat_to}
use Rattle.machine.proofs.FlatLaws.{Front}
use Rattle.machine.proofs.cache.flat.Given as goal

abbrev pub invariant-loop-i : goal.invariant-loop-i
invariant-loop-i l = Front 64 (l.i * 4) (flat_to l.i l.q) l.f

abbrev pub decreases-loop-i : goal.decreases-loop-i
decreases-loop-i l = 16 - l.i
