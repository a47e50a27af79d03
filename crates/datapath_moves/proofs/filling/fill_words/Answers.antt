use Rattle.datapath_moves.proofs.FillLaws.{words_stopped, words_filled}
use Rattle.datapath_moves.proofs.filling.fill_words.Goals as goal

pub returns-then-x-ge-EXCEPTION : goal.returns-then-x-ge-EXCEPTION
returns-then-x-ge-EXCEPTION c = words_stopped c.args.r.now c.args.q.now c.args.a c.read_words-x.result.answer c.read_words-x.result.at c.read_words-x.result.w0 c.read_words-x.result.w1 c.read_words-x.result.w2 _ _ (c.read_words-x.ensures c.args.r.now c.args.q.now) c.if-x-ge-EXCEPTION.true _ c.set_fault.ensures

pub returns : goal.returns
returns c = words_filled c.args.r.now c.args.q.now c.args.a c.read_words-x.result.answer c.read_words-x.result.at c.read_words-x.result.w0 c.read_words-x.result.w1 c.read_words-x.result.w2 _ _ (c.read_words-x.ensures c.args.r.now c.args.q.now) c.if-x-ge-EXCEPTION.false _ _ _ c.plus.ensures c.low32.ensures c.field-i.ensures
