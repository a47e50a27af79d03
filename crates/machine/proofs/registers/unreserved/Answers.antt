use Rattle.machine.proofs.RegisterLaws.{kept_masked}
use Rattle.machine.proofs.registers.unreserved.Goals as goal

pub returns : goal.returns
returns c = kept_masked c.args.k c.args.v _ c.mask.ensures
