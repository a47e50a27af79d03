use Rattle.step.proofs.StepLaws.{instruction_stepped}
use Rattle.access_spec.specs.Journal.{journaled}
use Rattle.step.proofs.stepping.instruction_step.Goals as goal

pub returns : goal.returns
returns c = instruction_stepped c.args.r.now c.args.q.now _ _ _ (journaled c.args.m.now c.args.journal.now) _ c.attempt-x.ensures _ (c.finish.ensures _)
