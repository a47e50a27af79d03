use mathlib.Core.Path.{refl}
use Rattle.access.proofs.JournalLaws.{word_restored}
use Rattle.access.proofs.journal.restore.Goals as goal

pub returns : goal.returns
returns c = let s = c.args in
    word_restored s.m.now s.e _ _ _ _ _ _ refl refl c.put_byte.ensures c.put_byte-2.ensures c.put_byte-3.ensures c.put_byte-4.ensures
