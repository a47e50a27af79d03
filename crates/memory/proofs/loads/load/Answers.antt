use Rattle.memory.proofs.loads.load.Goals as goal

pub returns-in-Byte : goal.returns-in-Byte
returns-in-Byte c = rw c.in-Byte.is c.load_byte.ensures

pub returns-in-Half : goal.returns-in-Half
returns-in-Half c = rw c.in-Half.is c.load_half.ensures

pub returns-in-Word : goal.returns-in-Word
returns-in-Word c = rw c.in-Word.is c.load_word.ensures
