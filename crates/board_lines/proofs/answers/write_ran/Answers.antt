use Rattle.hex_digits.proofs.OutputLaws.{on_loan}
use Rattle.board_lines.proofs.AnswerLaws.{ran_filled}
use Rattle.std.proofs.Common.{rules, sym, ◌∙◌}
use Rattle.board_lines.proofs.answers.write_ran.Goals as goal

pub returns : goal.returns
returns c =
    let p = c.put_digits.ensures in
    let p2 = c.put_digits-2.ensures in
    let p3 = c.put_digits-3.ensures in
    let p4 = c.put_digits-4.ensures in
    let p5 = c.put_digits-5.ensures in
    let p6 = c.put_digits-6.ensures in
    let p7 = c.put_byte.ensures in
    let same = sym (p7.lent ∙ p6.lent ∙ p5.lent ∙ p4.lent ∙ p3.lent ∙ p2.lent ∙ p.lent) in
    let s = c.args in
    let line = ran_filled s.steps s.stop s.code s.pc s.psw _ _ _ _ _ _ _ _ c.requires p.text p2.text p3.text p4.text p5.text p6.text p7.text in
    search (rules, on_loan same line)
