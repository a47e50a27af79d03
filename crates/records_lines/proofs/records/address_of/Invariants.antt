use Rattle.records_lines.proofs.SumLaws.{Addressing}
use Rattle.records_lines.proofs.records.address_of.Given as goal

abbrev pub invariant-loop-digit : goal.invariant-loop-digit
invariant-loop-digit l = Addressing l.digits l.digit-index l.address
