use Rattle.exec_dyadic.proofs.TagLaws.{tagged_stored, tagged_flagged}
use Rattle.exec_operands.specs.Code.{place_at}
use Rattle.access_spec.specs.Journal.{journaled}
use Rattle.exec_dyadic.proofs.tags.store_tagged.Goals as goal

pub returns-then-t : goal.returns-then-t
returns-then-t c = tagged_stored c.args.r.now c.args.q.now c.args.t (place_at c.args.d c.args.a) (journaled c.args.m.now c.args.journal.now) c.if-t.true _ c.write_tagged.ensures

pub returns-else-t : goal.returns-else-t
returns-else-t c = tagged_flagged c.args.r.now c.args.q.now c.args.t (place_at c.args.d c.args.a) (journaled c.args.m.now c.args.journal.now) c.if-t.false _ _ c.tagged_flags.ensures c.good.ensures
