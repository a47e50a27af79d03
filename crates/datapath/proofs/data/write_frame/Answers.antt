use Rattle.datapath.proofs.DataLaws.{frame_write}
use Rattle.std.proofs.Common.{rules}
use Rattle.datapath.proofs.data.write_frame.Goals as goal

pub returns : goal.returns
returns c = search (rules, frame_write)
