use Rattle.fast_dyadic.proofs.AccessLaws.{cached_read, read_far}
use Rattle.word.proofs.CaseLaws.{passed, missed}
use native.Mathlib.Omega.{arith}
use Rattle.std.proofs.Common.{rules}
use Rattle.fast_dyadic.proofs.accesses.fast_read.Goals as goal

pub returns-then-not-cached : goal.returns-then-not-cached
returns-then-not-cached c = λ h. search (rules, read_far, missed, c.memory_read.ensures h)

pub returns-then-not-aligned : goal.returns-then-not-aligned
returns-then-not-aligned c = λ h. absurd (omega (arith, h))

pub returns : goal.returns
returns c = λ h. search (rules, cached_read, passed)
