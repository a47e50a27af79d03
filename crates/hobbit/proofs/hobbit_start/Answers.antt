use Rattle.machine.specs.Record.{zero_cache}
use Rattle.machine.specs.Status.{cpu}
use Rattle.machine.specs.Cache.{quads_of}
use Rattle.machine.specs.Registers.{Bank}
use mathlib.Core.Path.{ap}
use Rattle.hobbit.proofs.hobbit_start.Goals as goal

pub returns : goal.returns
unfolding quads_of
returns c = ap (λ (b : Bank). cpu b zero_cache) c.start_bank.ensures
