use Rattle.mmu.proofs.WalkLaws.{nonpaged_permitted, nonpaged_fault}
use Rattle.std.proofs.Common.{rules}
use Rattle.mmu.proofs.translation.nonpaged.Goals as goal

pub returns-then-field-permits : goal.returns-then-field-permits
returns-then-field-permits c = search (rules, nonpaged_permitted)

pub returns-else-field-permits : goal.returns-else-field-permits
returns-else-field-permits c = search (rules, nonpaged_fault)
