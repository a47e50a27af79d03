use Rattle.std.proofs.Common.{arith}
use Rattle.word.proofs.products.with_sign.Goals as goal

pub returns-then-negative : goal.returns-then-negative
returns-then-negative c = simp c.if-negative.true (omega arith)
