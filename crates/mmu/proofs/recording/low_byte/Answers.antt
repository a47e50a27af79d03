use Rattle.mmu.proofs.WalkLaws.{past_end}
use Rattle.std.proofs.Common.{rules}
use Rattle.mmu.proofs.recording.low_byte.Goals as goal

pub returns-else-i-m : goal.returns-else-i-m
returns-else-i-m c = search (rules, past_end)
