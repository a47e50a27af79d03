use Rattle.machine.proofs.CacheLaws.{word_by_fields}
use Rattle.std.proofs.Common.{rules}
use Rattle.machine.proofs.cache.cache_word.Goals as goal

pub returns : goal.returns
returns c = search (rules, word_by_fields)
