use Rattle.exec_dyadic.proofs.PerformLaws.{check_stops, check_goes}
use Rattle.access_spec.specs.Journal.{journaled}
use Rattle.exec_dyadic.proofs.perform.execute_dyadic.Goals as goal

pub returns-then-e-ge-EXCEPTION : goal.returns-then-e-ge-EXCEPTION
returns-then-e-ge-EXCEPTION c = check_stops c.args.r.now c.args.q.now c.args.wide c.args.task c.args.s c.args.d _ (journaled c.args.m.now c.args.journal.now) c.check_registers-e.ensures c.if-e-ge-EXCEPTION.true

pub returns-else-e-ge-EXCEPTION : goal.returns-else-e-ge-EXCEPTION
returns-else-e-ge-EXCEPTION c = check_goes c.args.r.now c.args.q.now c.args.wide c.args.task c.args.s c.args.d _ (journaled c.args.m.now c.args.journal.now) c.check_registers-e.ensures c.if-e-ge-EXCEPTION.false _ c.perform.ensures
