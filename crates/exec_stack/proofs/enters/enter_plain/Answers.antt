use Rattle.exec_stack.proofs.EnterLaws.{plain_stopped, plain_done}
use Rattle.access_spec.specs.Journal.{journaled}
use Rattle.exec_stack.proofs.enters.enter_plain.Goals as goal

pub returns-then-x-ge-EXCEPTION : goal.returns-then-x-ge-EXCEPTION
returns-then-x-ge-EXCEPTION c = λ q j. plain_stopped c.args.r.now q c.args.target _ _ (journaled c.args.m.now j) _ (c.check_target-x.ensures q j) c.if-x-ge-EXCEPTION.true

pub returns : goal.returns
returns c = λ q j. plain_done c.args.r.now q c.args.target _ _ (journaled c.args.m.now j) _ (c.check_target-x.ensures q j) c.if-x-ge-EXCEPTION.false _ c.with_csp.ensures
