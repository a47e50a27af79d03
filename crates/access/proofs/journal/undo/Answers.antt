use Rattle.access.proofs.UndoLaws.{putting_begun, putting_more, putting_end}
use Rattle.std.proofs.Common.{rules}
use Rattle.access.proofs.journal.undo.Goals as goal

pub loop-i-init : goal.loop-i-init
loop-i-init c = search (rules, putting_begun)

pub loop-i-preserved : goal.loop-i-preserved
loop-i-preserved c = search (rules, putting_more)

pub returns : goal.returns
returns c = search (rules, putting_end)
