use Rattle.std.proofs.Common.{◌≡◌}
use Rattle.std.specs.Slice.Iter.{chunks_rest, chunks_size}
use Rattle.hex_digits.specs.Output.{contents}
use Rattle.records_lines.proofs.FrameLaws.{Framing}
use Rattle.records_lines.proofs.records.put_frames.Given as goal

abbrev pub invariant-loop-digits : goal.invariant-loop-digits
invariant-loop-digits l =
    goal.iterator-loop-digits.can_next l.digits-iterator
    × goal.iterator-loop-digits.is_finite l.digits-iterator
    × (chunks_size l.digits-iterator ≡ 64)
    × (l.output.buffer.ghost_name ≡ l.initial.output.buffer.ghost_name)
    × Framing (contents l.initial.output) l.address l.bytes (contents l.output) l.next (chunks_rest l.digits-iterator)
