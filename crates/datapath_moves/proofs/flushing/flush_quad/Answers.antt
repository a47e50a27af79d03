use Rattle.datapath_moves.proofs.FlushLaws.{regime_found}
use Rattle.datapath_moves.proofs.FillLaws.{quad_at}
use mathlib.Core.Path.{refl}
use Rattle.datapath_moves.proofs.flushing.flush_quad.Goals as goal

pub flush_found-y-requires : goal.flush_found-y-requires
flush_found-y-requires c = quad_at _ _ _ _ _ _ _ c.flush_place-x.ensures c.if-x-lt-EXCEPTION.true c.low32.ensures

pub returns-then-x-lt-EXCEPTION : goal.returns-then-x-lt-EXCEPTION
returns-then-x-lt-EXCEPTION c = c.flush_found-y.ensures c.args.r.now (regime_found c.args.r.now _ _ _ refl c.is_user-user.ensures c.is_virtual-translated.ensures c.if-translated.true)
