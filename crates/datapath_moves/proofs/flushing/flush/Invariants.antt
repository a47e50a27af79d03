use Rattle.datapath_moves.proofs.FlushLaws.{Flushing}
use Rattle.datapath_moves.proofs.flushing.flush.Given as goal

abbrev pub invariant-loop-n : goal.invariant-loop-n
invariant-loop-n l = Flushing l.q l.all l.target l.initial.m l.initial.journal l.initial.r l.m l.journal l.r l.x l.n

abbrev pub decreases-loop-n : goal.decreases-loop-n
decreases-loop-n l = l.n
