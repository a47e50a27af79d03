use Rattle.mmu.proofs.entries.permits.Goals as goal

pub returns : goal.returns
returns c = cc
