use Rattle.access.proofs.UndoLaws.{PuttingBack}
use Rattle.access.proofs.journal.undo.Given as goal

abbrev pub invariant-loop-i : goal.invariant-loop-i
invariant-loop-i l = PuttingBack l.journal l.initial.m l.m l.i

abbrev pub decreases-loop-i : goal.decreases-loop-i
decreases-loop-i l = l.i
