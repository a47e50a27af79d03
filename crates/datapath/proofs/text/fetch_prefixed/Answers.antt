use Rattle.datapath.proofs.OperandLaws.{prefixed_bad, prefixed_text}
use Rattle.access_spec.specs.Journal.{journaled}
use Rattle.machine.specs.Status.{cpu}
use Rattle.datapath.proofs.text.fetch_prefixed.Goals as goal

pub returns-then-x-ge-EXCEPTION : goal.returns-then-x-ge-EXCEPTION
returns-then-x-ge-EXCEPTION c = λ q. prefixed_bad (cpu c.args.r.now q) (journaled c.args.m.now c.args.journal.now) _ _ _ _ c.plus.ensures c.fetch_parcel-x.ensures c.if-x-ge-EXCEPTION.true

pub returns : goal.returns
returns c = λ q. prefixed_text (cpu c.args.r.now q) (journaled c.args.m.now c.args.journal.now) _ _ _ _ _ _ c.fetch_operands-o.result _ c.plus.ensures c.fetch_parcel-x.ensures c.if-x-ge-EXCEPTION.false c.parcel-p.ensures c.plus-2.ensures (c.fetch_operands-o.ensures q) c.prefixed.ensures
