use Rattle.datapath_moves.proofs.FillLaws.{Filling}
use Rattle.access.specs.Followed.{regime_for}
use Rattle.datapath_moves.proofs.filling.fill.Given as goal

abbrev pub invariant-loop-n : goal.invariant-loop-n
invariant-loop-n l = Filling (regime_for l.stb l.user l.translated) l.target l.initial.m l.initial.journal l.initial.q l.initial.r l.m l.journal l.q l.r l.x l.n

abbrev pub decreases-loop-n : goal.decreases-loop-n
decreases-loop-n l = l.n
