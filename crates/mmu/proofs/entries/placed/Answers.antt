use Rattle.word.proofs.FieldLaws.{placed_masked}
use Rattle.std.proofs.Common.{rules}
use Rattle.mmu.proofs.entries.placed.Goals as goal

pub returns : goal.returns
returns c = search (rules, placed_masked)
