use mathlib.Core.Path.{refl}
use native.Mathlib.Omega.{arith}
use Rattle.machine.specs.Status.{cpu}
use Rattle.access_spec.specs.Journal.{journaled}
use Rattle.datapath.proofs.OperandLaws.{operands_as, operands_none, operands_first, operands_three, operands_second, operands_five}
use Rattle.datapath.proofs.text.fetch_operands.Goals as goal

pub returns-then-form-lt2 : goal.returns-then-form-lt2
returns-then-form-lt2 c = λ q. operands_as (cpu c.args.r.now q) c.args.p _ _ _ _ c.words_fetched.ensures (operands_none (cpu c.args.r.now q) c.args.a c.args.p (journaled c.args.m.now c.args.journal.now) (omega (arith, c.form_bits-form.ensures, c.if-form-lt2.true)))

pub returns-then-x-ge-EXCEPTION : goal.returns-then-x-ge-EXCEPTION
returns-then-x-ge-EXCEPTION c = λ q. operands_as (cpu c.args.r.now q) c.args.p _ _ _ _ c.fetch_stopped.ensures (operands_first (cpu c.args.r.now q) c.args.a c.args.p (journaled c.args.m.now c.args.journal.now) (omega (arith, c.form_bits-form.ensures, c.if-form-lt2.false)) _ _ (c.fetch_two-x.ensures q) c.if-x-ge-EXCEPTION.true)

pub returns-then-form-lt3 : goal.returns-then-form-lt3
returns-then-form-lt3 c = λ q. operands_as (cpu c.args.r.now q) c.args.p _ _ _ _ c.words_fetched-then-form-lt3.ensures (operands_three (cpu c.args.r.now q) c.args.a c.args.p (journaled c.args.m.now c.args.journal.now) (omega (arith, c.form_bits-form.ensures, c.if-form-lt2.false)) _ _ (c.fetch_two-x.ensures q) c.if-x-ge-EXCEPTION.false _ c.low32.ensures (omega (arith, c.form_bits-form.ensures, c.if-form-lt3.true)))

pub returns-then-y-ge-EXCEPTION : goal.returns-then-y-ge-EXCEPTION
returns-then-y-ge-EXCEPTION c = λ q. operands_as (cpu c.args.r.now q) c.args.p _ _ _ _ c.fetch_stopped-then-y-ge-EXCEPTION.ensures (operands_second (cpu c.args.r.now q) c.args.a c.args.p (journaled c.args.m.now c.args.journal.now) (omega (arith, c.form_bits-form.ensures, c.if-form-lt2.false)) _ _ (c.fetch_two-x.ensures q) c.if-x-ge-EXCEPTION.false _ refl (omega (arith, c.form_bits-form.ensures, c.if-form-lt3.false)) _ _ _ c.plus.ensures (c.fetch_two-y.ensures q) c.if-y-ge-EXCEPTION.true)

pub returns : goal.returns
returns c = λ q. operands_as (cpu c.args.r.now q) c.args.p _ _ _ _ c.words_fetched-2.ensures (operands_five (cpu c.args.r.now q) c.args.a c.args.p (journaled c.args.m.now c.args.journal.now) (omega (arith, c.form_bits-form.ensures, c.if-form-lt2.false)) _ _ (c.fetch_two-x.ensures q) c.if-x-ge-EXCEPTION.false _ c.low32-2.ensures (omega (arith, c.form_bits-form.ensures, c.if-form-lt3.false)) _ _ _ c.plus.ensures (c.fetch_two-y.ensures q) c.if-y-ge-EXCEPTION.false _ c.low32-3.ensures)
