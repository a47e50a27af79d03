use Rattle.exec_dqm.specs.Words.{copy_words}
use Rattle.isa.specs.Legal.{of_mode, double_word}
use Rattle.exec_spec.specs.Dyadic.{move_words}
use Rattle.exec_dqm.proofs.ManyLaws.{words_by}
use Rattle.exec_operands.proofs.RestLaws.{part_stops, part_goes}
use Rattle.exec_operands.specs.Code.{place_at}
use Rattle.access_spec.specs.Journal.{journaled}
use Rattle.exec_dqm.proofs.quads.move_words.Goals as goal

pub returns-then-a-ge-EXCEPTION : goal.returns-then-a-ge-EXCEPTION
unfolding move_words
returns-then-a-ge-EXCEPTION c = part_stops (place_at c.args.s) c.args.r.now _ c.args.q.now _ _ (journaled c.args.m.now c.args.journal.now) _ c.locate_at-a.ensures.0 (λ k p. copy_words k (of_mode double_word c.args.d) c.args.wide c.args.d p) c.if-a-ge-EXCEPTION.true

pub returns-else-a-ge-EXCEPTION : goal.returns-else-a-ge-EXCEPTION
unfolding move_words
returns-else-a-ge-EXCEPTION c = part_goes (place_at c.args.s) c.args.r.now _ c.args.q.now _ _ (journaled c.args.m.now c.args.journal.now) _ c.locate_at-a.ensures.0 (λ k p. copy_words k (of_mode double_word c.args.d) c.args.wide c.args.d p) c.if-a-ge-EXCEPTION.false (c.locate_at-a.ensures.1 c.if-a-ge-EXCEPTION.false) _ c.low32.ensures _ (words_by _ _ _ _ _ _ _ c.is_double-double.ensures _ c.copy_words.ensures)
