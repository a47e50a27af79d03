use Rattle.std.proofs.Common.{◌≡◌, Some, None, Err, refl, rules}
use Rattle.refusals.specs.declared.Refusal.TheVariants.{MalformedLine}
use Rattle.board_lines.specs.declared.Frame.TheVariants.{Store}
use Rattle.records_lines.proofs.ConversionLaws.{bad_line, other_line, store_line, store_put}
use Rattle.records_lines.proofs.frames.convert_frame.Goals as goal

pub returns-in_err-ok_or-clause-text : goal.returns-in_err-ok_or-clause-text
returns-in_err-ok_or-clause-text c = let e : c.from_residual.result ≡ Err MalformedLine = search rules in
    let f : c.parse.result ≡ None = search rules in
    rw e (bad_line _ _ c.parse.ensures _ f)

pub put_record-requires : goal.put_record-requires
put_record-requires c = let f : c.parse.result ≡ Some (Store c.in-Store.field-0) = search rules in
    store_line _ _ c.parse.ensures _ f

pub returns-in-Store-clause-text : goal.returns-in-Store-clause-text
returns-in-Store-clause-text c = let f : c.parse.result ≡ Some (Store c.in-Store.field-0) = search rules in
    store_put _ _ c.parse.ensures _ _ _ f c.put_record.ensures.text

pub returns-in_default : goal.returns-in_default
returns-in_default c = let f : c.parse.result ≡ Some c.in_ok-ok_or.field-0 = search rules in
    record { lent = refl; text = other_line _ _ c.parse.ensures _ _ f c.in_default.not-Store }
