use Rattle.word.proofs.FieldLaws.{joined_masked}
use Rattle.word.proofs.fields.joined.Goals as goal

pub returns : goal.returns
returns c = joined_masked _ _ c.ranges.high.fits c.ranges.low.fits
