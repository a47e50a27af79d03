use Rattle.exec_alu.proofs.ModeLaws.{in_low, in_region}
use Rattle.std.proofs.Common.{rules}
use Rattle.exec_alu.proofs.modes.absolute.Goals as goal

pub returns-then-bit : goal.returns-then-bit
returns-then-bit c = search (rules, in_region)

pub returns-else-bit : goal.returns-else-bit
returns-else-bit c = search (rules, in_low)
