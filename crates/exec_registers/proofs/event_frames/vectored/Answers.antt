use Rattle.exec_registers.proofs.FrameLaws.{stored_both}
use Rattle.std.proofs.Common.{rules}
use Rattle.exec_registers.proofs.event_frames.vectored.Goals as goal

pub returns : goal.returns
returns c = search (rules, stored_both)
