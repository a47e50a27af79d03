use Rattle.std.proofs.Common.{arith, le-leb}
use borrow.Author.Tests.{lt-leb}
use Rattle.word.proofs.products.magnitude.Goals as goal

pub returns-then-x-ge2147483648 : goal.returns-then-x-ge2147483648
returns-then-x-ge2147483648 c = simp (le-leb _ _ c.if-x-ge2147483648.true) (omega arith)

pub returns-else-x-ge2147483648 : goal.returns-else-x-ge2147483648
returns-else-x-ge2147483648 c = simp (lt-leb _ _ c.if-x-ge2147483648.false)
