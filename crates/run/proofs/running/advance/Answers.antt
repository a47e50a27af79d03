use mathlib.Core.Path.{refl}
use Rattle.machine.specs.Status.{cpu}
use Rattle.run_spec.specs.Run.{board, turn_of}
use Rattle.run.proofs.RunLaws.{going_begun, going_more, going_stopped, going_end}
use Rattle.run.proofs.running.advance.Goals as goal

pub loop-n-init : goal.loop-n-init
loop-n-init c = (going_begun (turn_of c.args.confined c.args.level) c.args.budget (board (cpu c.args.r.now c.args.q.now) c.args.m.now), refl)

pub returns-then-x-ne0 : goal.returns-then-x-ne0
returns-then-x-ne0 c = going_stopped (turn_of c.args.confined c.args.level) c.args.budget (board (cpu c.args.r.now c.args.q.now) c.args.m.now) c.loop-n.n (board (cpu c.loop-n.r c.loop-n.q) c.loop-n.m) c.loop-n.invariant.0 c.loop-n-test.true _ _ c.take_turn-x.ensures.0 c.if-x-ne0.true

pub loop-n-preserved : goal.loop-n-preserved
loop-n-preserved c = (going_more (turn_of c.args.confined c.args.level) c.args.budget (board (cpu c.args.r.now c.args.q.now) c.args.m.now) c.loop-n.n (board (cpu c.loop-n.r c.loop-n.q) c.loop-n.m) c.loop-n.invariant.0 c.loop-n-test.true _ _ c.take_turn-x.ensures.0 c.if-x-ne0.false c.take_turn-x.auto.m, c.take_turn-x.ensures.1)

pub returns : goal.returns
returns c = going_end (turn_of c.args.confined c.args.level) c.args.budget (board (cpu c.args.r.now c.args.q.now) c.args.m.now) c.loop-n.n (board (cpu c.loop-n.r c.loop-n.q) c.loop-n.m) c.loop-n.invariant.0 c.loop-n-test.false
