use Rattle.access.proofs.AccessLaws.{write_fault_law, write_direct, write_paged}
use Rattle.std.proofs.Common.{rules}
use Rattle.access.proofs.accesses.write_walked.Goals as goal

pub returns-in-Fault : goal.returns-in-Fault
returns-in-Fault c = search (rules, write_fault_law)

pub returns-in-Direct : goal.returns-in-Direct
returns-in-Direct c = search (rules, write_direct)

pub returns-in-Paged : goal.returns-in-Paged
returns-in-Paged c = search (rules, write_paged)
