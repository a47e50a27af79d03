use Rattle.board_conversation.proofs.ExchangeLaws.{Answering}
use Rattle.board_conversation.specs.Code.{board_io_of}
use Rattle.machine.specs.Status.{cpu}
use Rattle.std.proofs.Common.{◌≡◌, ◌-◌, length, ltb}
use Rattle.board_conversation.proofs.blocks.answer_block.Given as goal

abbrev pub invariant-loop-to : goal.invariant-loop-to
invariant-loop-to l = Answering l.text l.number (board_io_of (cpu l.initial.r l.initial.q) l.initial.m l.initial.printout) (board_io_of (cpu l.r l.q) l.m l.printout) l.last l.from (ltb 0 l.from) l.to × (length l.m ≡ length l.initial.m) × (l.printout.output.buffer.ghost_name ≡ l.initial.printout.output.buffer.ghost_name)

abbrev pub decreases-loop-to : goal.decreases-loop-to
decreases-loop-to l = length l.text - l.from
