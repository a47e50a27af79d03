use Rattle.access.proofs.QuadLaws.{read_near, read_low}
use Rattle.std.proofs.Common.{rules}
use Rattle.datapath_moves.proofs.filling.read_beside.Goals as goal

pub returns : goal.returns
returns c = search (rules, read_near, read_low)
