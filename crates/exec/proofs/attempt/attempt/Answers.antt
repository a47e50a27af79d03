use Rattle.exec.proofs.AttemptLaws.{fetch_stops, fetch_goes}
use Rattle.access_spec.specs.Journal.{journaled}
use Rattle.exec.proofs.attempt.attempt.Goals as goal

pub returns-then-f-ne0 : goal.returns-then-f-ne0
returns-then-f-ne0 c = fetch_stops c.args.confined c.args.r.now c.args.q.now _ (journaled c.args.m.now c.args.journal.now) _ (c.fetch_text-f.ensures _) c.if-f-ne0.true _ _ c.low32.ensures c.raised.ensures

pub returns : goal.returns
returns c = fetch_goes c.args.confined c.args.r.now c.args.q.now _ (journaled c.args.m.now c.args.journal.now) _ (c.fetch_text-f.ensures _) c.if-f-ne0.false c.decode_text.result c.decode_text.ensures _ c.act_on_answer.ensures
