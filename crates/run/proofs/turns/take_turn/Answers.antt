use Rattle.run.proofs.TurnLaws.{takes_confined, takes_events}
use mathlib.Core.Path.{sym}
use Rattle.std.proofs.Common.{rules}
use Rattle.run.proofs.turns.take_turn.Goals as goal

pub returns-then-fast_turn : goal.returns-then-fast_turn
returns-then-fast_turn c = (sym (c.fast_turn.ensures.0 c.if-fast_turn.true c.args.confined), search rules)

pub returns-then-confined : goal.returns-then-confined
returns-then-confined c = (takes_confined c.args.confined c.args.level c.args.r.now _ c.args.q.now _ c.args.m.now _ (c.fast_turn.ensures.1 c.if-fast_turn.false) _ c.if-confined.true c.confined_turn.ensures.0, c.confined_turn.ensures.1)

pub returns-else-confined : goal.returns-else-confined
returns-else-confined c = (takes_events c.args.confined c.args.level c.args.r.now _ c.args.q.now _ c.args.m.now _ (c.fast_turn.ensures.1 c.if-fast_turn.false) _ c.if-confined.false c.turn.ensures.0, c.turn.ensures.1)
