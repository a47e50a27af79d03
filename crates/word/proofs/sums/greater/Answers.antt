use Rattle.word.proofs.sums.greater.Goals as goal

pub returns : goal.returns
returns c = cc
