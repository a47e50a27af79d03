use Rattle.word.proofs.products.differ.Goals as goal

pub returns : goal.returns
returns c = cc
