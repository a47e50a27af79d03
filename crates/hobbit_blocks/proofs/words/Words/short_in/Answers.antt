use Rattle.std.proofs.lemmas.Grind.{common_steps}
use Rattle.std.proofs.Common.{rules, arith}
use Rattle.hobbit_blocks.specs.Numbering.{short_in}
use Rattle.hobbit_blocks.proofs.words.Words.short_in.Goals as goal

pub returns-then-self-ge32768 : goal.returns-then-self-ge32768
unfolding short_in
returns-then-self-ge32768 c = search rules

pub returns-in-Row : goal.returns-in-Row
unfolding short_in
returns-in-Row c = search rules

pub returns-in_default : goal.returns-in_default
unfolding short_in
returns-in_default c = grind (arith, common_steps)

pub returns-in_default-2 : goal.returns-in_default-2
unfolding short_in
returns-in_default-2 c = search rules
