use Rattle.mmu.proofs.WalkLaws.{walk_outside, walk_invalid, walk_nonpaged, walk_table}
use Rattle.std.proofs.Common.{rules}
use Rattle.mmu.proofs.translation.second_stage.Goals as goal

pub returns-in-Outside : goal.returns-in-Outside
returns-in-Outside c = search (rules, walk_outside)

pub returns-in-Invalid : goal.returns-in-Invalid
returns-in-Invalid c = search (rules, walk_invalid)

pub returns-in-Nonpaged : goal.returns-in-Nonpaged
returns-in-Nonpaged c = search (rules, walk_nonpaged)

pub returns-in-Table : goal.returns-in-Table
returns-in-Table c = search (rules, walk_table)
