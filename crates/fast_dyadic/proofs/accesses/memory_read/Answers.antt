use Rattle.fast_dyadic.proofs.AccessLaws.{uncached_read}
use Rattle.word.proofs.CaseLaws.{passed}
use native.Mathlib.Omega.{arith}
use Rattle.std.proofs.Common.{rules}
use Rattle.fast_dyadic.proofs.accesses.memory_read.Goals as goal

pub returns-then-not-aligned : goal.returns-then-not-aligned
returns-then-not-aligned c = λ h. absurd (omega (arith, h))

pub returns-then-x-ge-NOWHERE : goal.returns-then-x-ge-NOWHERE
returns-then-x-ge-NOWHERE c = λ h. absurd (omega (arith, h, c.if-x-ge-NOWHERE.true))

pub returns : goal.returns
returns c = λ h. search (rules, uncached_read, passed)
