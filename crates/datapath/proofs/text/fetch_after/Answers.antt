use Rattle.datapath.proofs.OperandLaws.{after_text}
use Rattle.access_spec.specs.Journal.{journaled}
use Rattle.machine.specs.Status.{cpu}
use Rattle.datapath.proofs.text.fetch_after.Goals as goal

pub returns : goal.returns
returns c = λ q. after_text (cpu c.args.r.now q) (journaled c.args.m.now c.args.journal.now) c.args.p _ c.fetch_operands-o.result _ _ c.plus.ensures (c.fetch_operands-o.ensures q) c.bare.ensures
