use Rattle.datapath_moves.proofs.FillLaws.{quad_at}
use Rattle.datapath_moves.proofs.filling.fill_quad.Goals as goal

pub fill_found-requires : goal.fill_found-requires
fill_found-requires c = quad_at _ _ _ _ _ _ _ c.fill_place-x.ensures c.if-x-lt-EXCEPTION.true c.low32.ensures

pub returns-then-x-lt-EXCEPTION : goal.returns-then-x-lt-EXCEPTION
returns-then-x-lt-EXCEPTION c = rw c.if-translated.true (c.fill_found.ensures c.args.journal.now)
