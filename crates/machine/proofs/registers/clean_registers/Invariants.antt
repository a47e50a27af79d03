use Prim.Native.Nat.{◌-◌}
use Rattle.machine.proofs.RegisterLaws.{CleanSoFar}
use Rattle.machine.proofs.registers.clean_registers.Given as goal

abbrev pub invariant-loop-k : goal.invariant-loop-k
invariant-loop-k l = CleanSoFar l.b l.k l.ok

abbrev pub decreases-loop-k : goal.decreases-loop-k
decreases-loop-k l = 13 - l.k
