use Prim.Native.Nat.{◌-◌}
use Rattle.machine.specs.Cache.{quads_to}
use Rattle.machine.proofs.FlatLaws.{Front}
use Rattle.machine.proofs.cache.quads.Given as goal

abbrev pub invariant-loop-i : goal.invariant-loop-i
invariant-loop-i l = Front 16 l.i (quads_to l.i l.flat) l.q

abbrev pub decreases-loop-i : goal.decreases-loop-i
decreases-loop-i l = 16 - l.i
