use Rattle.exec_dqm.specs.Words.{words_for, put_words}
use Rattle.exec_operands.proofs.RestLaws.{rest_stops, rest_goes}
use Rattle.machine.specs.Status.{cpu}
use Rattle.access_spec.specs.Journal.{journaled}
use Rattle.exec_dqm.proofs.quads.copy_words.Goals as goal

pub returns-then-w-ge-EXCEPTION : goal.returns-then-w-ge-EXCEPTION
returns-then-w-ge-EXCEPTION c = rest_stops c.args.r.now _ c.args.q.now _ _ (journaled c.args.m.now c.args.journal.now) _ (λ k y. put_words k c.args.double c.args.wide c.args.d (words_for c.args.double c.read_many-w.result.w0 c.read_many-w.result.w1 c.read_many-w.result.w2 y)) (c.read_many-w.ensures.0 (λ xs. put_words (cpu c.args.r.now c.args.q.now) c.args.double c.args.wide c.args.d xs)) c.if-w-ge-EXCEPTION.true

pub returns-else-w-ge-EXCEPTION : goal.returns-else-w-ge-EXCEPTION
returns-else-w-ge-EXCEPTION c = rest_goes c.args.r.now _ c.args.q.now _ _ (journaled c.args.m.now c.args.journal.now) _ (λ k y. put_words k c.args.double c.args.wide c.args.d (words_for c.args.double c.read_many-w.result.w0 c.read_many-w.result.w1 c.read_many-w.result.w2 y)) (c.read_many-w.ensures.0 (λ xs. put_words (cpu c.args.r.now c.args.q.now) c.args.double c.args.wide c.args.d xs)) c.if-w-ge-EXCEPTION.false (c.read_many-w.ensures.1 c.if-w-ge-EXCEPTION.false) _ c.low32.ensures _ c.put_words.ensures
