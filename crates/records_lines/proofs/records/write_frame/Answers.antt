use Rattle.hex_digits.proofs.OutputLaws.{on_loan}
use Rattle.records_lines.proofs.FrameLaws.{frame_filled}
use Rattle.std.proofs.Common.{rules, sym, ◌∙◌}
use Rattle.records_lines.proofs.records.write_frame.Goals as goal

pub returns : goal.returns
returns c =
    let p = c.put_digits.ensures in
    let p2 = c.put_digits-2.ensures in
    let p3 = c.put_text.ensures in
    let p4 = c.put_byte.ensures in
    let same = sym (p4.lent ∙ p3.lent ∙ p2.lent ∙ p.lent) in
    let frame = frame_filled c.args.digits.now c.args.address _ _ _ _ _ c.requires p.text p2.text p3.text p4.text in
    search (rules, on_loan same frame)
