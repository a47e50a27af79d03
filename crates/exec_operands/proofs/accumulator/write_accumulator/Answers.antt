use Rattle.exec_operands.proofs.WriteLaws.{accumulator_written}
use Rattle.access_spec.specs.Journal.{journaled}
use Rattle.exec_operands.proofs.accumulator.write_accumulator.Goals as goal

pub returns : goal.returns
returns c = accumulator_written c.args.r.now _ c.args.q.now _ _ _ _ (journaled c.args.m.now c.args.journal.now) _ c.stack_address-a.ensures c.store.ensures
