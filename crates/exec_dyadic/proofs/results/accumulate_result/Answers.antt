use Rattle.exec_spec.specs.Operands.{write_accumulator}
use Rattle.exec_alu.specs.Results.{unpacked}
use Rattle.exec_spec.specs.Alu.{with_flags}
use Rattle.datapath.specs.Parts.{done}
use Rattle.exec_dyadic.proofs.ResultLaws.{word_fault, word_done}
use Rattle.machine.specs.Status.{cpu}
use Rattle.access_spec.specs.Journal.{journaled}
use Rattle.exec_dyadic.proofs.results.accumulate_result.Goals as goal

pub returns-then-x-ge-EXCEPTION : goal.returns-then-x-ge-EXCEPTION
returns-then-x-ge-EXCEPTION c = word_fault (λ v. write_accumulator (cpu c.args.r.now c.args.q.now) v) (λ k. done (with_flags k (unpacked c.args.w).carry (unpacked c.args.w).overflow)) _ _ c.value_of.ensures _ _ _ (journaled c.args.m.now c.args.journal.now) _ c.write_accumulator-x.ensures c.if-x-ge-EXCEPTION.true

pub returns-else-x-ge-EXCEPTION : goal.returns-else-x-ge-EXCEPTION
returns-else-x-ge-EXCEPTION c = word_done (λ v. write_accumulator (cpu c.args.r.now c.args.q.now) v) (λ k. with_flags k (unpacked c.args.w).carry (unpacked c.args.w).overflow) _ _ c.value_of.ensures _ _ _ (journaled c.args.m.now c.args.journal.now) _ c.write_accumulator-x.ensures c.if-x-ge-EXCEPTION.false _ (c.with_flags.ensures _)
