use Rattle.std.proofs.lemmas.Grind.{common_steps}
use Rattle.std.proofs.Common.{rules, arith}
use Rattle.hobbit_blocks.specs.Numbering.{dyadic_in}
use Rattle.hobbit_blocks.proofs.words.Words.dyadic_in.Goals as goal

pub returns-then-self-gt1 : goal.returns-then-self-gt1
unfolding dyadic_in
returns-then-self-gt1 c = grind (arith, common_steps)

pub returns-in-Row : goal.returns-in-Row
unfolding dyadic_in
returns-in-Row c = search rules

pub returns-in-Unimplemented : goal.returns-in-Unimplemented
unfolding dyadic_in
returns-in-Unimplemented c = search rules
