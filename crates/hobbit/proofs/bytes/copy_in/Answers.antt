use Rattle.hobbit.proofs.ByteLaws.{copied_more}
use Rattle.hobbit.proofs.bytes.copy_in.Goals as goal

pub loop-k-preserved : goal.loop-k-preserved
loop-k-preserved c = copied_more c.args.memory.now c.args.start c.args.bytes.now c.loop-k.k c.loop-k.memory c.loop-k.invariant c.loop-k-test.true
