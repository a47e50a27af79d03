use Rattle.access.proofs.AccessLaws.{fits_half, fits_word}
use Rattle.std.proofs.Common.{rules}
use Rattle.access.proofs.accesses.aligned.Goals as goal

pub returns-in-Half : goal.returns-in-Half
returns-in-Half c = search (rules, fits_half)

pub returns-in-Word : goal.returns-in-Word
returns-in-Word c = search (rules, fits_word)
