use Rattle.memory.proofs.AnswerLaws.{answer_got}
use Rattle.std.proofs.Common.{rules}
use Rattle.memory.proofs.answers.good.Goals as goal

pub returns : goal.returns
returns c = search (rules, answer_got)
