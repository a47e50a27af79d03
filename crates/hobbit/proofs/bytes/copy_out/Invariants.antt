use Rattle.std.proofs.Common.{length, take, drop}
use Rattle.machine.proofs.FlatLaws.{Front}
use Rattle.hobbit.proofs.bytes.copy_out.Given as goal

abbrev pub invariant-loop-k : goal.invariant-loop-k
invariant-loop-k l = Front (length l.initial.bytes) l.k (take l.k (drop l.start l.memory)) l.bytes
