use Rattle.fast_dyadic.proofs.TwoLaws.{source_uncached}
use native.Mathlib.Omega.{arith}
use Rattle.fast_dyadic.proofs.two.memory_source.Goals as goal

pub returns-then-k-ge-NOWHERE : goal.returns-then-k-ge-NOWHERE
returns-then-k-ge-NOWHERE c = λ h. absurd (omega (arith, h, c.if-k-ge-NOWHERE.true))

pub returns : goal.returns
returns c = λ h. source_uncached c.args.r.now c.args.q.now c.args.wide _ c.args.m.now c.fast_address-k.result c.low32.result _ (c.fast_address-k.ensures c.if-k-ge-NOWHERE.false) c.if-k-ge-NOWHERE.false c.low32.ensures (c.fast_value.ensures h)
