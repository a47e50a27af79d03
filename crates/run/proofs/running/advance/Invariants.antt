use Prim.Native.Nat.{◌-◌}
use mathlib.Core.Path.{◌≡◌}
use lib.ListN.{length}
use Rattle.machine.specs.Status.{cpu}
use Rattle.run_spec.specs.Run.{board, turn_of}
use Rattle.run.proofs.RunLaws.{Going}
use Rattle.run.proofs.running.advance.Given as goal

abbrev pub invariant-loop-n : goal.invariant-loop-n
invariant-loop-n l = Going (turn_of l.confined l.level) l.budget (board (cpu l.initial.r l.initial.q) l.initial.m) l.n (board (cpu l.r l.q) l.m) × (length l.journal ≡ 201)

abbrev pub decreases-loop-n : goal.decreases-loop-n
decreases-loop-n l = l.budget - l.n
