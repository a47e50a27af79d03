use Rattle.step.proofs.StepLaws.{finish_exception, finish_instruction, finish_sequence}
use Rattle.access_spec.specs.Journal.{journaled}
use Rattle.step.proofs.stepping.finish.Goals as goal

pub returns-then-x-ge-EXCEPTION : goal.returns-then-x-ge-EXCEPTION
returns-then-x-ge-EXCEPTION c = λ q. finish_exception c.args.r.now q c.args.p c.args.x (journaled c.args.m.now c.args.journal.now) c.if-x-ge-EXCEPTION.true _ c.low32.ensures _ _ (c.exception_step.ensures q)

pub returns-then-x-lt3 : goal.returns-then-x-lt3
returns-then-x-lt3 c = λ q. finish_instruction c.args.r.now q c.args.p c.args.x (journaled c.args.m.now c.args.journal.now) c.if-x-lt3.true _ c.low32-then-x-lt3.ensures _ c.traces_at.ensures _ c.trace_falls.ensures

pub returns : goal.returns
returns c = λ q. finish_sequence c.args.r.now q c.args.p c.args.x (journaled c.args.m.now c.args.journal.now) c.if-x-ge-EXCEPTION.false c.if-x-lt3.false _ c.bit.ensures _ c.trace_falls-2.ensures
