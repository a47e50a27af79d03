use Rattle.step.proofs.EventLaws.{trace_taken, interrupt_taken}
use Prim.Native.Nat.{◌%◌}
use Rattle.access_spec.specs.Journal.{journaled}
use Rattle.step.proofs.events.event_step.Goals as goal

pub returns-then-k-eq-TRACE : goal.returns-then-k-eq-TRACE
returns-then-k-eq-TRACE c = λ q. trace_taken c.args.r.now q (c.args.code % 32) _ c.taken.ensures (journaled c.args.m.now c.args.journal.now) _ _ _ _ c.settle.ensures c.if-k-eq-TRACE.true (c.exception_sequence-x.ensures q)

pub returns : goal.returns
returns c = λ q. interrupt_taken c.args.r.now q (c.args.code % 32) _ c.taken.ensures (journaled c.args.m.now c.args.journal.now) _ _ _ _ c.settle-2.ensures c.if-k-eq-TRACE.false _ c.vector_of.ensures (c.interrupt_sequence-y.ensures q)
