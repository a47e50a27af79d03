use Rattle.datapath_moves.proofs.FlushLaws.{found_flushed}
use Rattle.access_spec.specs.Journal.{journaled}
use Rattle.datapath_moves.proofs.flushing.flush_found.Goals as goal

pub returns : goal.returns
returns c = found_flushed c.args.q.now c.args.user c.args.stb c.args.a c.args.pa c.args.m.now c.requires c.ranges.a.fits _ _ _ _ _ _ _ _ _ _ _ (journaled c.args.m.now c.args.journal.now) _ _ _ _ c.cache_word-v0.ensures c.write_beside-x0.ensures.0 c.write_beside-x0.ensures.2 c.plus.ensures c.cache_word-v1.ensures c.write_beside-x1.ensures.0 c.write_beside-x1.ensures.2 c.plus-2.ensures c.cache_word-v2.ensures c.write_beside-x2.ensures.0 c.write_beside-x2.ensures.2 c.plus-3.ensures c.cache_word-v3.ensures c.write_beside.ensures.0 c.write_beside.ensures.2
