use Rattle.memory.proofs.AnswerLaws.{answer_bad}
use Rattle.std.proofs.Common.{rules}
use Rattle.memory.proofs.answers.raised.Goals as goal

pub returns : goal.returns
returns c = search (rules, answer_bad)
