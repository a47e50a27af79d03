use Rattle.lines.proofs.SearchLaws.{Seeking}
use Rattle.lines.proofs.newline_from.Given as goal

abbrev pub invariant-loop-i : goal.invariant-loop-i
invariant-loop-i l = Seeking l.text l.from l.i
