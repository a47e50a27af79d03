use Rattle.memory.proofs.stores.store.Goals as goal

pub returns-in-Byte : goal.returns-in-Byte
returns-in-Byte c = rw c.in-Byte.is c.store_byte.ensures

pub returns-in-Half : goal.returns-in-Half
returns-in-Half c = rw c.in-Half.is c.store_half.ensures

pub returns-in-Word : goal.returns-in-Word
returns-in-Word c = rw c.in-Word.is c.store_word.ensures
