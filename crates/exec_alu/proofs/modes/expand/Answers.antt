use Rattle.exec_alu.proofs.ModeLaws.{expanded_signed}
use Rattle.std.proofs.Common.{rules}
use Rattle.exec_alu.proofs.modes.expand.Goals as goal

pub returns-then-is_signed : goal.returns-then-is_signed
returns-then-is_signed c = search (rules, expanded_signed)
