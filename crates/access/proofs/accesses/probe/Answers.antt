use Rattle.access.proofs.AccessLaws.{probe_write, probe_fault, probe_direct, probe_paged, probe_physical}
use Rattle.std.proofs.Common.{rules}
use Rattle.access.proofs.accesses.probe.Goals as goal

pub returns-then-c-eq-WRITE_FAULT : goal.returns-then-c-eq-WRITE_FAULT
returns-then-c-eq-WRITE_FAULT c = search (rules, probe_write)

pub returns-else-c-eq-WRITE_FAULT : goal.returns-else-c-eq-WRITE_FAULT
returns-else-c-eq-WRITE_FAULT c = search (rules, probe_fault)

pub returns-in-Direct : goal.returns-in-Direct
returns-in-Direct c = search (rules, probe_direct)

pub returns-in-Paged : goal.returns-in-Paged
returns-in-Paged c = search (rules, probe_paged)

pub returns-else-translated : goal.returns-else-translated
returns-else-translated c = search (rules, probe_physical)
