use Rattle.access.proofs.AccessLaws.{text_fault, text_direct, text_paged}
use Rattle.std.proofs.Common.{rules}
use Rattle.access.proofs.accesses.fetch_walked.Goals as goal

pub returns-in-Fault : goal.returns-in-Fault
returns-in-Fault c = search (rules, text_fault)

pub returns-in-Direct : goal.returns-in-Direct
returns-in-Direct c = search (rules, text_direct)

pub returns-in-Paged : goal.returns-in-Paged
returns-in-Paged c = search (rules, text_paged)
