use Rattle.machine.proofs.RegisterLaws.{bank_good}
use Rattle.std.proofs.Common.{rules}
use Rattle.machine.proofs.registers.good_bank.Goals as goal

pub returns : goal.returns
returns c = search (rules, bank_good)
