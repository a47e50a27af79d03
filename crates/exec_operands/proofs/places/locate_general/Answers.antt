use Rattle.exec_operands.proofs.PlaceLaws.{located_absolute, located_offset, located_indirect, located_constant}
use mathlib.Core.Path.{refl}
use Rattle.access_spec.specs.Journal.{journaled}
use Rattle.exec_operands.proofs.places.locate_general.Goals as goal

pub returns-in-Absolute : goal.returns-in-Absolute
returns-in-Absolute c = (located_absolute c.args.r.now c.args.q.now c.args.wide c.args.mode c.args.v (journaled c.args.m.now c.args.journal.now) _ c.mode_kind-k.ensures _ c.in-Absolute.is _ c.absolute.ensures c.good.ensures, λ _. refl)

pub returns-in-Offset : goal.returns-in-Offset
returns-in-Offset c = (located_offset c.args.r.now c.args.q.now c.args.wide c.args.mode c.args.v (journaled c.args.m.now c.args.journal.now) _ c.mode_kind-k.ensures _ c.in-Offset.is _ c.stack_address.ensures c.good-in-Offset.ensures, λ _. refl)

pub returns-in-Indirect : goal.returns-in-Indirect
returns-in-Indirect c = (located_indirect c.args.r.now c.args.q.now c.args.wide c.args.mode c.args.v (journaled c.args.m.now c.args.journal.now) _ c.mode_kind-k.ensures _ c.in-Indirect.is _ c.stack_address-a.ensures _ _ c.load.ensures.0, c.load.ensures.1)

pub returns-in-Constant : goal.returns-in-Constant
returns-in-Constant c = (located_constant c.args.r.now c.args.q.now c.args.wide c.args.mode c.args.v (journaled c.args.m.now c.args.journal.now) _ c.mode_kind-k.ensures _ c.in-Constant.is c.good-in-Constant.ensures, λ _. refl)
