use Rattle.exec_dqm.specs.Words.{words_for, count_for}
use Rattle.exec_spec.specs.Dyadic.{write_many}
use Rattle.exec_operands.proofs.RestLaws.{part_stops, part_goes}
use Rattle.exec_operands.specs.Code.{place_at}
use Rattle.access_spec.specs.Journal.{journaled}
use Rattle.exec_dqm.proofs.quads.put_words.Goals as goal

pub returns-then-a-ge-EXCEPTION : goal.returns-then-a-ge-EXCEPTION
returns-then-a-ge-EXCEPTION c = part_stops (place_at c.args.d) c.args.r.now _ c.args.q.now _ _ (journaled c.args.m.now c.args.journal.now) _ c.locate_at-a.ensures.0 (λ k p. write_many k (count_for c.args.double) p (words_for c.args.double c.args.w.w0 c.args.w.w1 c.args.w.w2 c.args.y)) c.if-a-ge-EXCEPTION.true

pub returns-else-a-ge-EXCEPTION : goal.returns-else-a-ge-EXCEPTION
returns-else-a-ge-EXCEPTION c = part_goes (place_at c.args.d) c.args.r.now _ c.args.q.now _ _ (journaled c.args.m.now c.args.journal.now) _ c.locate_at-a.ensures.0 (λ k p. write_many k (count_for c.args.double) p (words_for c.args.double c.args.w.w0 c.args.w.w1 c.args.w.w2 c.args.y)) c.if-a-ge-EXCEPTION.false (c.locate_at-a.ensures.1 c.if-a-ge-EXCEPTION.false) _ c.low32.ensures _ c.write_many.ensures
