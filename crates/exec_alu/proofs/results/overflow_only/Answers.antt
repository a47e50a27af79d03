use Rattle.exec_alu.proofs.ResultLaws.{overflow_set, digit_lt}
use Rattle.std.proofs.Common.{rules}
use Rattle.exec_alu.proofs.results.overflow_only.Goals as goal

pub packed-requires : goal.packed-requires
packed-requires c = search (rules, digit_lt)

pub returns : goal.returns
returns c = search (rules, overflow_set)
