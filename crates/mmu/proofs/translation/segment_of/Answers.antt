use Rattle.mmu.proofs.WalkLaws.{of_invalid, of_nonpaged, of_table, of_outside}
use Rattle.std.proofs.Common.{rules}
use Rattle.mmu.proofs.translation.segment_of.Goals as goal

pub returns-then-bit-2 : goal.returns-then-bit-2
returns-then-bit-2 c = search (rules, of_nonpaged)

pub returns-then-p-m : goal.returns-then-p-m
returns-then-p-m c = search (rules, of_table)

pub returns-else-p-m : goal.returns-else-p-m
returns-else-p-m c = search (rules, of_outside)

pub returns-else-bit : goal.returns-else-bit
returns-else-bit c = search (rules, of_invalid)
