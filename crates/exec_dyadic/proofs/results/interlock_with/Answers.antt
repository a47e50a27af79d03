use Rattle.exec_spec.specs.Operands.{write_place, write_accumulator}
use Rattle.exec_spec.specs.Alu.{Result}
use Rattle.exec_dyadic.proofs.ResultLaws.{word_fault, word_then}
use Rattle.exec_operands.specs.Code.{place_at}
use Rattle.machine.specs.Status.{cpu}
use mathlib.Core.Path.{ap, ◌∙◌}
use Rattle.access_spec.specs.Journal.{journaled}
use Rattle.exec_dyadic.proofs.results.interlock_with.Goals as goal

pub returns-then-e-ge-EXCEPTION : goal.returns-then-e-ge-EXCEPTION
returns-then-e-ge-EXCEPTION c = word_fault (λ v. write_place (cpu c.args.r.now c.args.q.now) (place_at c.args.d c.args.a) v) (λ k. write_accumulator k c.args.y) _ _ (c.value_of.ensures ∙ ap (λ (r : Result). r.value) c.operate-w.ensures) _ _ _ (journaled c.args.m.now c.args.journal.now) _ c.write_at-e.ensures c.if-e-ge-EXCEPTION.true

pub returns-else-e-ge-EXCEPTION : goal.returns-else-e-ge-EXCEPTION
returns-else-e-ge-EXCEPTION c = word_then (λ v. write_place (cpu c.args.r.now c.args.q.now) (place_at c.args.d c.args.a) v) (λ k. write_accumulator k c.args.y) _ _ (c.value_of.ensures ∙ ap (λ (r : Result). r.value) c.operate-w.ensures) _ _ _ (journaled c.args.m.now c.args.journal.now) _ c.write_at-e.ensures c.if-e-ge-EXCEPTION.false _ c.write_accumulator.ensures
