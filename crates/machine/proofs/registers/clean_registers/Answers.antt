use Rattle.machine.proofs.RegisterLaws.{clean_none, clean_more, clean_all}
use Rattle.std.proofs.Common.{rules}
use Rattle.machine.proofs.registers.clean_registers.Goals as goal

pub loop-k-init : goal.loop-k-init
loop-k-init c = search (rules, clean_none)

pub loop-k-preserved : goal.loop-k-preserved
loop-k-preserved c = search (rules, clean_more)

pub returns : goal.returns
returns c = search (rules, clean_all)
