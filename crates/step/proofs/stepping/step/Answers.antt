use Rattle.step.proofs.StepLaws.{steps_instruction, steps_event}
use Rattle.access_spec.specs.Journal.{journaled}
use Rattle.step.proofs.stepping.step.Goals as goal

pub returns-then-due-eq0 : goal.returns-then-due-eq0
returns-then-due-eq0 c = steps_instruction c.args.level c.args.r.now c.args.q.now _ c.looked.ensures _ c.due_code-due.ensures (journaled c.args.m.now c.args.journal.now) _ c.if-due-eq0.true c.instruction_step.ensures

pub returns-else-due-eq0 : goal.returns-else-due-eq0
returns-else-due-eq0 c = steps_event c.args.level c.args.r.now c.args.q.now _ c.looked.ensures _ c.due_code-due.ensures (journaled c.args.m.now c.args.journal.now) _ c.if-due-eq0.false (c.event_step.ensures _)
