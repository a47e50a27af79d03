use Rattle.std.proofs.Common.{refl}
use Rattle.records_lines.proofs.FrameLaws.{frame_placed}
use Rattle.records_lines.proofs.records.put_frame.Goals as goal

pub returns-clause-text : goal.returns-clause-text
returns-clause-text c = frame_placed _ c.args.digits.now c.args.address _ _ c.requires c.write_frame.ensures refl
