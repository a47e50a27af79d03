use Rattle.exec_operands.proofs.PlaceLaws.{located_general, located_register}
use mathlib.Core.Path.{refl}
use Rattle.access_spec.specs.Journal.{journaled}
use Rattle.exec_operands.proofs.places.locate_at.Goals as goal

pub returns-in-General : goal.returns-in-General
returns-in-General c = (located_general c.args.r.now _ c.args.q.now c.args.wide c.args.o c.locate_general.result (journaled c.args.m.now c.args.journal.now) _ c.in-General.mode c.in-General.v c.in-General.is c.locate_general.ensures.0, c.locate_general.ensures.1)

pub returns-in-Register : goal.returns-in-Register
returns-in-Register c = (located_register c.args.r.now c.args.r.now c.args.q.now c.args.wide c.args.o _ (journaled c.args.m.now c.args.journal.now) (journaled c.args.m.now c.args.journal.now) _ c.in-Register.is c.good.ensures, λ _. refl)
