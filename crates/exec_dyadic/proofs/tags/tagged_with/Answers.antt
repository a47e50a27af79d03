use Rattle.exec_dyadic.proofs.TagLaws.{tagged_by}
use Rattle.exec_operands.specs.Code.{place_at}
use Rattle.access_spec.specs.Journal.{journaled}
use Rattle.exec_dyadic.proofs.tags.tagged_with.Goals as goal

pub returns : goal.returns
returns c = tagged_by c.args.r.now c.args.q.now _ (place_at c.args.d c.args.a) (journaled c.args.m.now c.args.journal.now) c.args.minus c.args.y c.args.x c.tagged-t.ensures _ c.store_tagged.ensures
