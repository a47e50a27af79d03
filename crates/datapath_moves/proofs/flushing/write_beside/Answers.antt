use Rattle.access.proofs.QuadLaws.{write_near, write_low, quad_kept}
use Rattle.std.proofs.Common.{rules}
use Rattle.datapath_moves.proofs.flushing.write_beside.Goals as goal

pub returns : goal.returns
returns c = search (rules, write_near, write_low, quad_kept)
