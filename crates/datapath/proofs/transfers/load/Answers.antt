use Rattle.datapath.proofs.PartLaws.{load_fault, load_done}
use Rattle.access_spec.specs.Journal.{journaled}
use Rattle.datapath.proofs.transfers.load.Goals as goal

pub returns-then-x-ge-EXCEPTION : goal.returns-then-x-ge-EXCEPTION
returns-then-x-ge-EXCEPTION c = load_fault c.args.r.now c.args.q.now _ c.args.a _ (journaled c.args.m.now c.args.journal.now) _ c.read_data-x.ensures _ c.if-x-ge-EXCEPTION.true c.set_fault.ensures

pub returns-else-x-ge-EXCEPTION : goal.returns-else-x-ge-EXCEPTION
returns-else-x-ge-EXCEPTION c = load_done c.args.r.now c.args.q.now _ c.args.a _ (journaled c.args.m.now c.args.journal.now) _ c.read_data-x.ensures c.if-x-ge-EXCEPTION.false
