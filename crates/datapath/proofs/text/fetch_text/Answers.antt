use Rattle.datapath.proofs.OperandLaws.{text_bad, text_prefixed, text_after}
use Rattle.access_spec.specs.Journal.{journaled}
use Rattle.machine.specs.Status.{cpu}
use Rattle.datapath.proofs.text.fetch_text.Goals as goal

pub returns-then-x-ge-EXCEPTION : goal.returns-then-x-ge-EXCEPTION
returns-then-x-ge-EXCEPTION c = λ q. text_bad (cpu c.args.r.now q) (journaled c.args.m.now c.args.journal.now) _ _ c.fetch_parcel-x.ensures _ c.if-x-ge-EXCEPTION.true

pub returns-then-p-eq-CPU_PREFIX : goal.returns-then-p-eq-CPU_PREFIX
returns-then-p-eq-CPU_PREFIX c = λ q. text_prefixed (cpu c.args.r.now q) (journaled c.args.m.now c.args.journal.now) _ _ c.fetch_parcel-x.ensures _ _ c.if-x-ge-EXCEPTION.false c.parcel-p.ensures c.if-p-eq-CPU_PREFIX.true (c.fetch_prefixed.ensures q)

pub returns-else-p-eq-CPU_PREFIX : goal.returns-else-p-eq-CPU_PREFIX
returns-else-p-eq-CPU_PREFIX c = λ q. text_after (cpu c.args.r.now q) (journaled c.args.m.now c.args.journal.now) _ _ c.fetch_parcel-x.ensures _ _ c.if-x-ge-EXCEPTION.false c.parcel-p.ensures c.if-p-eq-CPU_PREFIX.false (c.fetch_after.ensures q)
