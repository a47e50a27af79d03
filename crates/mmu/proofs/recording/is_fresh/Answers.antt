use Rattle.mmu.proofs.WalkLaws.{fresh_test}
use Rattle.std.proofs.Common.{rules}
use Rattle.mmu.proofs.recording.is_fresh.Goals as goal

pub returns : goal.returns
returns c = search (rules, fresh_test)
