use Rattle.memory.proofs.places.place.Goals as goal

pub returns-then-little : goal.returns-then-little
returns-then-little c = rw c.if-little.true c.flip.ensures
