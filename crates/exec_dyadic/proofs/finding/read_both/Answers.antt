use Rattle.exec_spec.specs.Operands.{read_place}
use Rattle.datapath.specs.Parts.{◌>>=◌}
use Rattle.exec_dyadic.proofs.FindLaws.{place_fault, both_read}
use Rattle.exec_operands.specs.Code.{place_at}
use Rattle.machine.specs.Status.{cpu}
use mathlib.Core.Path.{◌∙◌}
use Rattle.access_spec.specs.Journal.{journaled}
use Rattle.exec_dyadic.proofs.finding.read_both.Goals as goal

pub returns-then-f-ge-EXCEPTION : goal.returns-then-f-ge-EXCEPTION
returns-then-f-ge-EXCEPTION c = (λ f. place_fault c.args.r.now _ c.args.q.now c.args.d _ _ (journaled c.args.m.now c.args.journal.now) _ (f c.find-f.result.source) (c.find-f.ensures.0 (λ x p. read_place (cpu c.args.r.now c.args.q.now) p >>= (λ y. f x p y))) (λ y. f 0 (place_at c.args.d 0) y) c.if-f-ge-EXCEPTION.true, c.find-f.ensures.1)

pub returns-else-f-ge-EXCEPTION : goal.returns-else-f-ge-EXCEPTION
returns-else-f-ge-EXCEPTION c = (λ f. both_read c.args.r.now _ c.args.q.now c.args.d _ _ (journaled c.args.m.now c.args.journal.now) _ (f c.find-f.result.source) (c.find-f.ensures.0 (λ x p. read_place (cpu c.args.r.now c.args.q.now) p >>= (λ y. f x p y))) c.if-f-ge-EXCEPTION.false (c.find-f.ensures.1 c.if-f-ge-EXCEPTION.false) _ c.low32-a.ensures _ _ _ c.read_at-y.ensures.0, λ h. c.read_at-y.ensures.1 h ∙ (c.find-f.ensures.1 c.if-f-ge-EXCEPTION.false))
