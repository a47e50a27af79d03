use mathlib.Core.Path.{refl}
use Rattle.word.specs.Sums.{plus_of}
use lib.ListN.{set}
use Rattle.access.specs.Followed.{regime_for}
use Rattle.access_spec.specs.Journal.{journaled}
use Rattle.datapath.proofs.PartLaws.{fault_bank}
use Rattle.datapath_moves.proofs.FillLaws.{fill_first, fill_second, fill_third, fill_fourth, quad_filled, by_answer, quad_as, read_stopped, read_whole}
use Rattle.machine.specs.Status.{cpu}
use Rattle.datapath_moves.proofs.filling.read_words.Goals as goal

pub returns-then-x0-ge-EXCEPTION : goal.returns-then-x0-ge-EXCEPTION
returns-then-x0-ge-EXCEPTION c = λ b q. quad_as (cpu b q) c.args.a _ _ _ _ c.stopped_at.ensures (read_stopped b q c.args.a c.read-x0.result c.args.a 0 0 0 _ _ c.if-x0-ge-EXCEPTION.true (fill_first b q (regime_for c.args.stb c.args.user c.args.translated) c.args.a (journaled c.args.m.now c.args.journal.now) _ _ c.read-x0.ensures (fault_bank b c.read-x0.result c.args.a) c.if-x0-ge-EXCEPTION.true refl))

pub returns-then-x1-ge-EXCEPTION : goal.returns-then-x1-ge-EXCEPTION
returns-then-x1-ge-EXCEPTION c = λ b q. quad_as (cpu b q) c.args.a _ _ _ _ c.stopped_at-then-x1-ge-EXCEPTION.ensures (read_stopped b q c.args.a c.read-x1.result c.plus-b.result 0 0 0 _ _ c.if-x1-ge-EXCEPTION.true (fill_second b q (regime_for c.args.stb c.args.user c.args.translated) c.args.a (journaled c.args.m.now c.args.journal.now) _ _ c.read-x0.ensures (fault_bank b c.read-x1.result c.plus-b.result) c.if-x0-ge-EXCEPTION.false _ c.plus-b.ensures _ _ c.read-x1.ensures c.if-x1-ge-EXCEPTION.true refl))

pub returns-then-x2-ge-EXCEPTION : goal.returns-then-x2-ge-EXCEPTION
returns-then-x2-ge-EXCEPTION c = λ b q. quad_as (cpu b q) c.args.a _ _ _ _ c.stopped_at-then-x2-ge-EXCEPTION.ensures (read_stopped b q c.args.a c.read-x2.result c.plus-c.result 0 0 0 _ _ c.if-x2-ge-EXCEPTION.true (fill_third b q (regime_for c.args.stb c.args.user c.args.translated) c.args.a (journaled c.args.m.now c.args.journal.now) _ _ c.read-x0.ensures (fault_bank b c.read-x2.result c.plus-c.result) c.if-x0-ge-EXCEPTION.false _ c.plus-b.ensures _ _ c.read-x1.ensures c.if-x1-ge-EXCEPTION.false _ c.plus-c.ensures _ _ c.read-x2.ensures c.if-x2-ge-EXCEPTION.true refl))

pub returns : goal.returns
returns c = λ b q. by_answer _ c.read-x3.result (λ s. read_whole b q c.args.a c.read-x3.result c.plus-d.result c.low32.result c.low32-2.result c.low32-3.result _ _ s (quad_filled b q (regime_for c.args.stb c.args.user c.args.translated) c.args.a (journaled c.args.m.now c.args.journal.now) _ _ c.read-x0.ensures (set b 4 (plus_of c.args.a 16)) c.if-x0-ge-EXCEPTION.false _ c.plus-b.ensures _ _ c.read-x1.ensures c.if-x1-ge-EXCEPTION.false _ c.plus-c.ensures _ _ c.read-x2.ensures c.if-x2-ge-EXCEPTION.false _ c.plus-d.ensures _ _ c.read-x3.ensures s _ _ _ _ _ _ c.low32.ensures c.low32-2.ensures c.low32-3.ensures refl refl refl refl)) (λ s. read_stopped b q c.args.a c.read-x3.result c.plus-d.result c.low32.result c.low32-2.result c.low32-3.result _ _ s (fill_fourth b q (regime_for c.args.stb c.args.user c.args.translated) c.args.a (journaled c.args.m.now c.args.journal.now) _ _ c.read-x0.ensures (fault_bank b c.read-x3.result c.plus-d.result) c.if-x0-ge-EXCEPTION.false _ c.plus-b.ensures _ _ c.read-x1.ensures c.if-x1-ge-EXCEPTION.false _ c.plus-c.ensures _ _ c.read-x2.ensures c.if-x2-ge-EXCEPTION.false _ c.plus-d.ensures _ _ c.read-x3.ensures s refl))
