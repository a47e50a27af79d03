use Rattle.mmu.proofs.WalkLaws.{marked_write, marked_other}
use Rattle.std.proofs.Common.{rules}
use Rattle.mmu.proofs.recording.mark.Goals as goal

pub returns-then-is_write : goal.returns-then-is_write
returns-then-is_write c = search (rules, marked_write)

pub returns-else-is_write : goal.returns-else-is_write
returns-else-is_write c = search (rules, marked_other)
