use Rattle.mmu.proofs.WalkLaws.{entry_inside, entry_outside}
use Rattle.std.proofs.Common.{rules}
use Rattle.mmu.proofs.translation.segment_entry.Goals as goal

pub returns-then-x-lt-EXCEPTION : goal.returns-then-x-lt-EXCEPTION
returns-then-x-lt-EXCEPTION c = search (rules, entry_inside)

pub returns-else-x-lt-EXCEPTION : goal.returns-else-x-lt-EXCEPTION
returns-else-x-lt-EXCEPTION c = search (rules, entry_outside)
