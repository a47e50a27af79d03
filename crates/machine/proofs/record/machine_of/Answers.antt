use Rattle.machine.proofs.RecordLaws.{machine_made}
use Rattle.std.proofs.Common.{rules}
use Rattle.machine.proofs.record.machine_of.Goals as goal

pub returns : goal.returns
returns c = search (rules, machine_made)
