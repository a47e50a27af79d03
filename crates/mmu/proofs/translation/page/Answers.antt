use Rattle.mmu.proofs.WalkLaws.{page_permitted, page_fault}
use Rattle.std.proofs.Common.{rules}
use Rattle.mmu.proofs.translation.page.Goals as goal

pub returns-then-bit-permits : goal.returns-then-bit-permits
returns-then-bit-permits c = search (rules, page_permitted)

pub returns-else-bit-permits : goal.returns-else-bit-permits
returns-else-bit-permits c = search (rules, page_fault)
