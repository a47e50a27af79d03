use mathlib.Core.Path.{◌∙◌}
use Rattle.word.specs.declared.Width.TheVariants.{Byte, Half}
use Rattle.machine.proofs.CacheLaws.{bytes_written, word_written}
use Rattle.machine.proofs.cache.cache_write.Goals as goal

pub returns-in-Byte : goal.returns-in-Byte
returns-in-Byte c = bytes_written _ _ _ _ (c.held-x.ensures.0 ∙ c.cache_word.ensures) _ Byte _ _ c.in-Byte.is c.insert.ensures c.put_word.ensures

pub returns-in-Half : goal.returns-in-Half
returns-in-Half c = bytes_written _ _ _ _ (c.held-x.ensures.0 ∙ c.cache_word.ensures) _ Half _ _ c.in-Half.is c.insert-in-Half.ensures c.put_word-in-Half.ensures

pub returns-in-Word : goal.returns-in-Word
returns-in-Word c = word_written _ _ _ _ c.cache_word.ensures _ _ c.in-Word.is c.held-x.ensures.1 c.ranges.v.fits c.put_word-in-Word.ensures
