use Rattle.exec_registers.proofs.FrameLaws.{resets_bank}
use Rattle.std.proofs.Common.{rules}
use Rattle.exec_registers.proofs.event_frames.reset.Goals as goal

pub returns : goal.returns
returns c = search (rules, resets_bank)
