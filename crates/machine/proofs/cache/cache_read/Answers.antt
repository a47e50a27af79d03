use Rattle.word.specs.declared.Width.TheVariants.{Byte, Half}
use Rattle.machine.proofs.CacheLaws.{bytes_read, word_read}
use Rattle.machine.proofs.cache.cache_read.Goals as goal

pub returns-in-Byte : goal.returns-in-Byte
returns-in-Byte c = bytes_read _ _ _ _ c.cache_word-x.ensures Byte _ c.in-Byte.is c.extract.ensures

pub returns-in-Half : goal.returns-in-Half
returns-in-Half c = bytes_read _ _ _ _ c.cache_word-x.ensures Half _ c.in-Half.is c.extract-in-Half.ensures

pub returns-in-Word : goal.returns-in-Word
returns-in-Word c = word_read _ _ _ _ c.cache_word-x.ensures _ c.in-Word.is c.held.ensures.0 c.held.ensures.1
