use Rattle.datapath_moves.proofs.FillLaws.{found_filled}
use Rattle.std.proofs.Common.{rules}
use Rattle.datapath_moves.proofs.filling.fill_found.Goals as goal

pub returns : goal.returns
returns c = found_filled c.args.r.now c.args.q.now c.args.user c.args.stb c.args.a c.args.pa c.args.m.now c.requires (search rules) _ _ _ _ _ _ _ _ _ _ c.read_beside-x0.ensures.0 c.read_beside-x0.ensures.1 c.read_beside-x1.ensures.0 c.read_beside-x1.ensures.1 c.read_beside-x2.ensures.0 c.read_beside-x2.ensures.1 c.read_beside-x3.ensures.0 c.read_beside-x3.ensures.1 c.low32.ensures c.low32-2.ensures c.low32-3.ensures c.low32-4.ensures c.plus.ensures c.field-i.ensures
