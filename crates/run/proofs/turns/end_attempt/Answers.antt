use mathlib.Core.Path.{refl}
use Rattle.run.proofs.TurnLaws.{settle_done, settle_fault, settle_fetched}
use Rattle.run.proofs.turns.end_attempt.Goals as goal

pub returns-then-x-lt-FINISHED : goal.returns-then-x-lt-FINISHED
returns-then-x-lt-FINISHED c = λ m. settle_done c.args.level c.args.bank.now c.args.cache.now c.args.x c.args.r.now c.args.q.now m c.if-x-lt-FINISHED.true _ c.low32.ensures _ c.traces_at.ensures _ c.trace_falls.ensures _ c.count_turn.ensures

pub returns-then-x-ge-EXCEPTION : goal.returns-then-x-ge-EXCEPTION
returns-then-x-ge-EXCEPTION c = λ m. settle_fault c.args.level c.args.bank.now c.args.cache.now c.args.x c.args.r.now c.args.q.now m c.if-x-ge-EXCEPTION.true _ _ c.low32-then-x-ge-EXCEPTION.ensures refl

pub returns : goal.returns
returns c = λ m. settle_fetched c.args.level c.args.bank.now c.args.cache.now c.args.x c.args.r.now c.args.q.now m c.if-x-lt-FINISHED.false c.if-x-ge-EXCEPTION.false _ c.looked.ensures _ refl
