use Rattle.word.proofs.SumLaws.{tagged_bad, tagged_good}
use Rattle.std.proofs.Common.{rules}
use Rattle.word.proofs.tags.tagged.Goals as goal

pub returns-then-bad_tag : goal.returns-then-bad_tag
returns-then-bad_tag c = search (rules, tagged_bad)

pub returns-else-bad_tag : goal.returns-else-bad_tag
returns-else-bad_tag c = search (rules, tagged_good)
