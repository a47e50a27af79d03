use Rattle.std.proofs.Common.{rules}
use Rattle.exec_rows.proofs.Laws.{formed_at}
use Rattle.fast_decode.proofs.short.plan_row.Goals as goal

pub returns : goal.returns
returns c = search (rules, formed_at)
