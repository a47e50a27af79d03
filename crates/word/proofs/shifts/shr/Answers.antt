use Rattle.word.proofs.SumLaws.{shr_negative, shr_positive, shr_fits}
use Rattle.std.proofs.Common.{rules}
use Rattle.word.proofs.shifts.shr.Goals as goal

pub overflow_add-result : goal.overflow_add-result
overflow_add-result c = search (rules, shr_fits)

pub returns-then-is_negative : goal.returns-then-is_negative
returns-then-is_negative c = search (rules, shr_negative)

pub returns-else-is_negative : goal.returns-else-is_negative
returns-else-is_negative c = search (rules, shr_positive)
