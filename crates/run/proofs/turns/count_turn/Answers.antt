use mathlib.Core.Path.{ap, ◌∙◌}
use mathlib.Core.Bool.{Bool, not}
use Rattle.machine.specs.Registers.{word, config}
use Rattle.machine.specs.Status.{cpu}
use Rattle.step_spec.specs.Timers.{counted}
use Rattle.run.proofs.turns.count_turn.Goals as goal

pub returns : goal.returns
returns c = λ q. c.counted.ensures q ∙ ap (λ (u : Bool). counted (word c.args.bank.now config) (not u) c.args.completed (cpu c.args.r.now q)) c.is_user.ensures
