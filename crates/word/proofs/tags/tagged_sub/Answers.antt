use Rattle.word.specs.Tags.{tagged_sub_of}
use Rattle.word.proofs.tags.tagged_sub.Goals as goal

pub returns : goal.returns
unfolding tagged_sub_of
returns c = cc
