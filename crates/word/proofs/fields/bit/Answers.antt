use Rattle.word.proofs.fields.bit.Goals as goal

pub returns : goal.returns
returns c = cc
