use Rattle.records_conversion.proofs.LineLaws.{line_refused}
use Rattle.records_conversion.proofs.blocks.convert_line.Goals as goal

pub returns-in-Err-clause-text : goal.returns-in-Err-clause-text
returns-in-Err-clause-text c = line_refused c.args.way c.args.line.now _ _ _ c.in-Err.refusal c.in-Err.ensures.text _ (rw c.number.ensures at c.put_refusal.ensures.text)
