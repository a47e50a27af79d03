use Rattle.exec_alu.proofs.ResultLaws.{both_set, digit_lt}
use Rattle.std.proofs.Common.{rules}
use Rattle.exec_alu.proofs.results.both_flags.Goals as goal

pub packed-requires : goal.packed-requires
packed-requires c = search (rules, digit_lt)

pub returns : goal.returns
returns c = search (rules, both_set)
