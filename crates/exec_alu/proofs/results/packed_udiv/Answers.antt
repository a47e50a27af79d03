use Rattle.exec_alu.proofs.ResultLaws.{carry_free}
use Rattle.std.proofs.Common.{rules}
use Rattle.exec_alu.proofs.results.packed_udiv.Goals as goal

pub returns : goal.returns
returns c = search (rules, carry_free)
