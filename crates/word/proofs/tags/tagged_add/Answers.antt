use Rattle.word.specs.Tags.{tagged_add_of}
use Rattle.word.proofs.tags.tagged_add.Goals as goal

pub returns : goal.returns
unfolding tagged_add_of
returns c = cc
