use Rattle.exec_spec.specs.Dyadic.{perform}
use Rattle.exec_dyadic.proofs.PerformLaws.{performed}
use Rattle.machine.specs.Status.{cpu}
use Rattle.access_spec.specs.Journal.{journaled}
use Rattle.exec_dyadic.proofs.perform.perform.Goals as goal

pub returns-in-Compute : goal.returns-in-Compute
unfolding perform
returns-in-Compute c = performed (cpu c.args.r.now c.args.q.now) c.args.wide c.args.task _ c.args.s c.args.d (journaled c.args.m.now c.args.journal.now) c.in-Compute.is _ c.compute.ensures

pub returns-in-Accumulate : goal.returns-in-Accumulate
unfolding perform
returns-in-Accumulate c = performed (cpu c.args.r.now c.args.q.now) c.args.wide c.args.task _ c.args.s c.args.d (journaled c.args.m.now c.args.journal.now) c.in-Accumulate.is _ c.accumulate.ensures

pub returns-in-Interlock : goal.returns-in-Interlock
unfolding perform
returns-in-Interlock c = performed (cpu c.args.r.now c.args.q.now) c.args.wide c.args.task _ c.args.s c.args.d (journaled c.args.m.now c.args.journal.now) c.in-Interlock.is _ c.interlock.ensures

pub returns-in-Compare : goal.returns-in-Compare
unfolding perform
returns-in-Compare c = performed (cpu c.args.r.now c.args.q.now) c.args.wide c.args.task _ c.args.s c.args.d (journaled c.args.m.now c.args.journal.now) c.in-Compare.is _ c.compare.ensures

pub returns-in-TaggedAdd : goal.returns-in-TaggedAdd
unfolding perform
returns-in-TaggedAdd c = performed (cpu c.args.r.now c.args.q.now) c.args.wide c.args.task _ c.args.s c.args.d (journaled c.args.m.now c.args.journal.now) c.in-TaggedAdd.is _ c.compute_tagged.ensures

pub returns-in-TaggedSub : goal.returns-in-TaggedSub
unfolding perform
returns-in-TaggedSub c = performed (cpu c.args.r.now c.args.q.now) c.args.wide c.args.task _ c.args.s c.args.d (journaled c.args.m.now c.args.journal.now) c.in-TaggedSub.is _ c.compute_tagged-in-TaggedSub.ensures

pub returns-in-Move : goal.returns-in-Move
unfolding perform
returns-in-Move c = performed (cpu c.args.r.now c.args.q.now) c.args.wide c.args.task _ c.args.s c.args.d (journaled c.args.m.now c.args.journal.now) c.in-Move.is _ c.move_operand.ensures

pub returns-in-MoveAddress : goal.returns-in-MoveAddress
unfolding perform
returns-in-MoveAddress c = performed (cpu c.args.r.now c.args.q.now) c.args.wide c.args.task _ c.args.s c.args.d (journaled c.args.m.now c.args.journal.now) c.in-MoveAddress.is _ c.move_address.ensures

pub returns-in-MoveWords : goal.returns-in-MoveWords
unfolding perform
returns-in-MoveWords c = performed (cpu c.args.r.now c.args.q.now) c.args.wide c.args.task _ c.args.s c.args.d (journaled c.args.m.now c.args.journal.now) c.in-MoveWords.is _ c.move_words.ensures
