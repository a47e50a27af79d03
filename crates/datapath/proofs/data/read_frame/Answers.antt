use Rattle.datapath.proofs.DataLaws.{frame_read}
use Rattle.std.proofs.Common.{rules}
use Rattle.datapath.proofs.data.read_frame.Goals as goal

pub returns : goal.returns
returns c = search (rules, frame_read)
