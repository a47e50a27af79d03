use Rattle.lines.proofs.SearchLaws.{seeking_eight}
use Rattle.std.proofs.Common.{arith}
use Rattle.lines.proofs.skip.Goals as goal

pub loop-preserved : goal.loop-preserved
loop-preserved c = seeking_eight c.args.text.now c.args.from c.loop.place _ c.loop.invariant (omega (arith, c.loop.invariant.upto, c.if-text-place-lt8.false)) c.none_in_eight.ensures c.if-not-none_in_eight.false
