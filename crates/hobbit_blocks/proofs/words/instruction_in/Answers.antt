use Rattle.std.proofs.Common.{rules}
use Rattle.hobbit_blocks.specs.Numbering.{instruction_in, kind_in}
use Rattle.hobbit_blocks.proofs.words.instruction_in.Goals as goal

pub returns-in-1 : goal.returns-in-1
unfolding instruction_in kind_in
returns-in-1 c = search rules

pub returns-in-2 : goal.returns-in-2
unfolding instruction_in kind_in
returns-in-2 c = search rules

pub returns-in-2-2 : goal.returns-in-2-2
unfolding instruction_in kind_in
returns-in-2-2 c = search rules

pub returns-in-3 : goal.returns-in-3
unfolding instruction_in kind_in
returns-in-3 c = search rules

pub returns-in_default : goal.returns-in_default
unfolding instruction_in kind_in
returns-in_default c = search rules

pub returns-in_default-2 : goal.returns-in_default-2
unfolding instruction_in kind_in
returns-in_default-2 c = search rules
