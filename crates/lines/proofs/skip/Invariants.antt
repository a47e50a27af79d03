use Rattle.lines.proofs.SearchLaws.{Seeking}
use Rattle.lines.proofs.skip.Given as goal

abbrev pub invariant-loop : goal.invariant-loop
invariant-loop l = Seeking l.text l.from l.place
