use Rattle.access.proofs.AccessLaws.{read_fault_law, read_direct, read_paged}
use Rattle.std.proofs.Common.{rules}
use Rattle.access.proofs.accesses.read_walked.Goals as goal

pub returns-in-Fault : goal.returns-in-Fault
returns-in-Fault c = search (rules, read_fault_law)

pub returns-in-Direct : goal.returns-in-Direct
returns-in-Direct c = search (rules, read_direct)

pub returns-in-Paged : goal.returns-in-Paged
returns-in-Paged c = search (rules, read_paged)
