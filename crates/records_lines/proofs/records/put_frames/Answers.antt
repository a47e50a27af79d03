use Rattle.std.proofs.Common.{◌∙◌, refl, arith, rules}
use Rattle.hex_digits.proofs.OutputLaws.{left_out}
use Rattle.records_lines.proofs.FrameLaws.{length_frames, frames_room, framing_none, framing_room, framing_more, framing_all}
use Rattle.records_lines.proofs.records.put_frames.Goals as goal

pub loop-digits-init : goal.loop-digits-init
loop-digits-init c = (search rules, tt, search rules, refl, framing_none _ _ _ _ (search rules) (frames_room _ c.args.address c.args.bytes.now _ (omega (arith, c.div_ceil.ensures)) _ c.has_room.ensures c.if-has_room.true))

pub put_frame-requires : goal.put_frame-requires
put_frame-requires c = let i = c.loop-digits.invariant in
    let s = c.in-Some.ensures.steps in
    framing_room _ _ _ _ _ _ i.4 _ _ s.1.0 (rw i.2 at s.1.1) s.1.2

pub loop-digits-preserved : goal.loop-digits-preserved
loop-digits-preserved c = let i = c.loop-digits.invariant in
    let s = c.in-Some.ensures.steps in (
      search rules,
      tt,
      s.0 ∙ i.2,
      c.put_frame.ensures.lent ∙ i.3,
      framing_more _ _ _ _ _ _ i.4 _ _ s.1.0 (rw i.2 at s.1.1) s.1.2 _ _ c.put_frame.ensures.text (search rules),
    )

pub returns-in-None-clause-text : goal.returns-in-None-clause-text
returns-in-None-clause-text c = framing_all _ _ _ _ _ _ c.loop-digits.invariant.4 c.in-None.ensures.steps.1.0

pub returns-else-has_room-clause-text : goal.returns-else-has_room-clause-text
returns-else-has_room-clause-text c = left_out _ _ _ _ _ (omega (arith, c.div_ceil.ensures, length_frames c.args.address c.args.bytes.now)) c.has_room.ensures c.if-has_room.false
