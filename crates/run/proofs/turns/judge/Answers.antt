use Rattle.run.proofs.TurnLaws.{judge_holds, judge_lost}
use mathlib.Core.Path.{ap}
use Rattle.memory.specs.Bytes.{Memory}
use Rattle.access_spec.specs.Journal.{undo}
use Rattle.machine.specs.Status.{cpu}
use Rattle.run_spec.specs.Run.{board}
use Rattle.run.proofs.turns.judge.Goals as goal

pub returns-then-stack_held : goal.returns-then-stack_held
returns-then-stack_held c = judge_holds c.args.r.now c.args.q.now c.args.m.now (board (cpu c.args.bank.now c.args.cache.now) (undo c.args.journal.now c.args.m.now)) c.args.x _ c.stack_held.ensures c.if-stack_held.true

pub returns : goal.returns
returns c = judge_lost c.args.r.now c.args.q.now c.args.m.now (board (cpu c.args.bank.now c.args.cache.now) (undo c.args.journal.now c.args.m.now)) c.args.x _ c.stack_held.ensures c.if-stack_held.false _ (ap (λ (n : Memory). board (cpu c.args.bank.now c.args.cache.now) n) c.undo.ensures)
