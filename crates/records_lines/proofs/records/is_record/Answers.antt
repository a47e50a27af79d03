use Rattle.records_lines.proofs.RecordLaws.{too_short, record_told, no_record}
use Rattle.std.proofs.Common.{◌∙◌, rules}
use Rattle.records_lines.proofs.records.is_record.Goals as goal

pub returns-then-n-lt-HEAD : goal.returns-then-n-lt-HEAD
returns-then-n-lt-HEAD c = search (rules, too_short)

pub returns-then-line-n : goal.returns-then-line-n
returns-then-line-n c = record_told _ _ (c.from-count.ensures ∙ c.byte_of.ensures) _ _ c.if-line-n.true c.is_count.ensures c.all_digits.ensures

pub returns : goal.returns
returns c = no_record _ _ (c.from-count.ensures ∙ c.byte_of.ensures) c.if-line-n.false
