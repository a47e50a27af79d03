use Rattle.machine.proofs.CacheLaws.{put_by_fields}
use Rattle.std.proofs.Common.{rules}
use Rattle.machine.proofs.cache.put_word.Goals as goal

pub returns : goal.returns
returns c = search (rules, put_by_fields)
