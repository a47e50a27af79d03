use Rattle.datapath_moves.proofs.FlushLaws.{flushed_word}
use Rattle.std.proofs.Common.{rules}
use Rattle.datapath_moves.proofs.flushing.flush_word.Goals as goal

pub returns : goal.returns
returns c = search (rules, flushed_word)
