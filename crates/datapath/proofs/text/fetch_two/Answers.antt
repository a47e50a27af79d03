use Rattle.access_spec.specs.Journal.{journaled}
use Rattle.machine.specs.Status.{cpu}
use Rattle.datapath.proofs.TextLaws.{two_first, two_second, two_both}
use Rattle.datapath.proofs.text.fetch_two.Goals as goal

pub returns-then-x-ge-EXCEPTION : goal.returns-then-x-ge-EXCEPTION
returns-then-x-ge-EXCEPTION c = λ q. two_first (cpu c.args.r.now q) c.args.a _ (journaled c.args.m.now c.args.journal.now) _ c.fetch_parcel-x.ensures c.if-x-ge-EXCEPTION.true

pub returns-then-y-ge-EXCEPTION : goal.returns-then-y-ge-EXCEPTION
returns-then-y-ge-EXCEPTION c = λ q. two_second (cpu c.args.r.now q) c.args.a _ (journaled c.args.m.now c.args.journal.now) _ c.fetch_parcel-x.ensures c.if-x-ge-EXCEPTION.false _ _ _ c.plus.ensures c.fetch_parcel-y.ensures c.if-y-ge-EXCEPTION.true

pub returns : goal.returns
returns c = λ q. two_both (cpu c.args.r.now q) c.args.a _ (journaled c.args.m.now c.args.journal.now) _ c.fetch_parcel-x.ensures c.if-x-ge-EXCEPTION.false _ _ _ c.plus.ensures c.fetch_parcel-y.ensures c.if-y-ge-EXCEPTION.false _ _ _ c.parcel.ensures c.parcel-2.ensures c.joined.ensures
