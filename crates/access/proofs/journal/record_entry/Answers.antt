use Rattle.access.proofs.JournalLaws.{entry_fresh, entry_old}
use Rattle.std.proofs.Common.{rules}
use Rattle.access.proofs.journal.record_entry.Goals as goal

pub returns-then-is_fresh : goal.returns-then-is_fresh
returns-then-is_fresh c = search (rules, entry_fresh)

pub returns-else-is_fresh : goal.returns-else-is_fresh
returns-else-is_fresh c = search (rules, entry_old)
