use Rattle.mmu.proofs.WalkLaws.{recorded_new, recorded_old}
use Rattle.std.proofs.Common.{rules}
use Rattle.mmu.proofs.recording.record_access.Goals as goal

pub returns-then-c-b : goal.returns-then-c-b
returns-then-c-b c = search (rules, recorded_new)

pub returns-else-c-b : goal.returns-else-c-b
returns-else-c-b c = search (rules, recorded_old)
