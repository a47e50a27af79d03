use Rattle.exec_rows.proofs.Laws.{action_short}
use Rattle.std.proofs.Common.{rules}
use Rattle.exec_rows.proofs.forms.action_of.Goals as goal

pub returns-in-Short : goal.returns-in-Short
returns-in-Short c = search (rules, action_short)
