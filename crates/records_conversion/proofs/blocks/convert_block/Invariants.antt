use Rattle.records_conversion.proofs.BlockLaws.{Unrefused}
use Rattle.records_conversion.specs.Loop.{progress}
use Rattle.hex_digits.specs.Output.{contents}
use Rattle.std.proofs.Common.{◌≡◌, ◌-◌, false, length}
use Rattle.records_conversion.proofs.blocks.convert_block.Given as goal

abbrev pub invariant-loop-to : goal.invariant-loop-to
invariant-loop-to l =
    Unrefused l.way l.text (progress (contents l.initial.output) l.initial.last false) (contents l.output) l.last l.from l.to
    × (l.output.buffer.ghost_name ≡ l.initial.output.buffer.ghost_name)

abbrev pub decreases-loop-to : goal.decreases-loop-to
decreases-loop-to l = length l.text - l.from
