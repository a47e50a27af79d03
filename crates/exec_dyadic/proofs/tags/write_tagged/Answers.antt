use Rattle.exec_dyadic.proofs.TagLaws.{tagged_general, tagged_register}
use Rattle.access_spec.specs.Journal.{journaled}
use Rattle.exec_dyadic.proofs.tags.write_tagged.Goals as goal

pub returns-in-General : goal.returns-in-General
returns-in-General c = tagged_general c.args.r.now c.args.q.now c.args.t c.args.d c.args.a (journaled c.args.m.now c.args.journal.now) _ _ c.in-General.is _ c.put_tagged.ensures

pub returns-in-Register : goal.returns-in-Register
returns-in-Register c = tagged_register c.args.r.now c.args.q.now c.args.t c.args.d c.args.a (journaled c.args.m.now c.args.journal.now) _ _ _ _ _ c.in-Register.is c.register_of.ensures c.tagged_flags.ensures c.write_register.ensures c.good.ensures
