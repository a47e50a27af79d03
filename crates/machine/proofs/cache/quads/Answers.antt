use Rattle.machine.proofs.FlatLaws.{front_none, quads_more, quads_all}
use Rattle.std.proofs.Common.{rules}
use Rattle.machine.proofs.cache.quads.Goals as goal

pub loop-i-init : goal.loop-i-init
loop-i-init c = search (rules, front_none)

pub loop-i-preserved : goal.loop-i-preserved
loop-i-preserved c = search (rules, quads_more)

pub returns : goal.returns
returns c = search (rules, quads_all)
