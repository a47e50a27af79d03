use Rattle.exec_spec.specs.Operands.{write_place}
use Rattle.exec_spec.specs.Dyadic.{tagged_flags}
use Rattle.datapath.specs.Parts.{done}
use Rattle.exec_dyadic.proofs.ResultLaws.{word_fault, word_done}
use Rattle.exec_operands.specs.Code.{place_at}
use Rattle.machine.specs.Status.{cpu}
use mathlib.Core.Path.{refl}
use Rattle.access_spec.specs.Journal.{journaled}
use Rattle.exec_dyadic.proofs.tags.put_tagged.Goals as goal

pub returns-then-x-ge-EXCEPTION : goal.returns-then-x-ge-EXCEPTION
returns-then-x-ge-EXCEPTION c = word_fault (λ v. write_place (cpu c.args.r.now c.args.q.now) (place_at c.args.d c.args.a) v) (λ k. done (tagged_flags k c.args.t)) _ _ refl _ _ _ (journaled c.args.m.now c.args.journal.now) _ c.write_at-x.ensures c.if-x-ge-EXCEPTION.true

pub returns-else-x-ge-EXCEPTION : goal.returns-else-x-ge-EXCEPTION
returns-else-x-ge-EXCEPTION c = word_done (λ v. write_place (cpu c.args.r.now c.args.q.now) (place_at c.args.d c.args.a) v) (λ k. tagged_flags k c.args.t) _ _ refl _ _ _ (journaled c.args.m.now c.args.journal.now) _ c.write_at-x.ensures c.if-x-ge-EXCEPTION.false _ (c.tagged_flags.ensures _)
