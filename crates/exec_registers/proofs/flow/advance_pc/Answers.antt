use Rattle.exec_registers.proofs.FlowLaws.{advances}
use Rattle.std.proofs.Common.{rules}
use Rattle.exec_registers.proofs.flow.advance_pc.Goals as goal

pub returns : goal.returns
returns c = search (rules, advances)
