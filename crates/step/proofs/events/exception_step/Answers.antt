use Rattle.step.proofs.EventLaws.{exception_resets, exception_taken}
use Rattle.access_spec.specs.Journal.{journaled}
use Rattle.step.proofs.events.exception_step.Goals as goal

pub returns-then-e-eq0 : goal.returns-then-e-eq0
returns-then-e-eq0 c = λ q. exception_resets c.args.r.now q c.args.e (journaled c.args.m.now c.args.journal.now) c.if-e-eq0.true _ c.reset.ensures

pub returns : goal.returns
returns c = λ q. exception_taken c.args.r.now q c.args.e (journaled c.args.m.now c.args.journal.now) c.if-e-eq0.false _ _ _ _ (c.exception_sequence-x.ensures q) c.settle.ensures
