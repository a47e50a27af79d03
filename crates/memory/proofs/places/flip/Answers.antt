use Rattle.memory.proofs.places.flip.Goals as goal

pub returns-in-Byte : goal.returns-in-Byte
returns-in-Byte c = rw c.in-Byte.is

pub returns-in-Half : goal.returns-in-Half
returns-in-Half c = rw c.in-Half.is
