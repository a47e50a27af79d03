use Rattle.records_lines.proofs.RecordLaws.{no_type, data_count, fixed_count}
use Rattle.records_lines.proofs.records.is_count.Goals as goal

pub returns-then-kind-le-LAST_WITH_DATA : goal.returns-then-kind-le-LAST_WITH_DATA
returns-then-kind-le-LAST_WITH_DATA c = data_count _ _ _ c.in-Some.ensures c.if-kind-le-LAST_WITH_DATA.true

pub returns-else-kind-le-LAST_WITH_DATA : goal.returns-else-kind-le-LAST_WITH_DATA
returns-else-kind-le-LAST_WITH_DATA c = fixed_count _ _ _ c.in-Some.ensures c.if-kind-le-LAST_WITH_DATA.false

pub returns-in-None : goal.returns-in-None
returns-in-None c = no_type _ _ c.in-None.ensures.0
