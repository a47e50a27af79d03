use Rattle.std.proofs.Common.{rules}
use Rattle.hobbit_blocks.specs.Numbering.{monadic_in}
use Rattle.hobbit_blocks.proofs.words.Words.monadic_in.Goals as goal

pub returns-then-not-length_agrees : goal.returns-then-not-length_agrees
unfolding monadic_in
returns-then-not-length_agrees c = search rules

pub returns-in-Row-Some : goal.returns-in-Row-Some
unfolding monadic_in
returns-in-Row-Some c = search rules

pub returns-in_default : goal.returns-in_default
unfolding monadic_in
returns-in_default c = search rules

pub returns-in_default-2 : goal.returns-in_default-2
unfolding monadic_in
returns-in_default-2 c = search rules
