use Rattle.access.proofs.JournalLaws.{note_made, note_past, note_full}
use Rattle.std.proofs.Common.{rules}
use Rattle.access.proofs.journal.note.Goals as goal

pub returns-then-w-lt-EXCEPTION : goal.returns-then-w-lt-EXCEPTION
returns-then-w-lt-EXCEPTION c = search (rules, note_made)

pub returns-else-w-lt-EXCEPTION : goal.returns-else-w-lt-EXCEPTION
returns-else-w-lt-EXCEPTION c = search (rules, note_past)

pub returns-else-n-lt-ROOM : goal.returns-else-n-lt-ROOM
returns-else-n-lt-ROOM c = search (rules, note_full)
