use Rattle.hobbit.proofs.ByteLaws.{Copied}
use Rattle.hobbit.proofs.bytes.copy_in.Given as goal

abbrev pub invariant-loop-k : goal.invariant-loop-k
invariant-loop-k l = Copied l.initial.memory l.start l.bytes l.k l.memory
