use Rattle.exec_flow.proofs.FlowLaws.{jump_taken, jump_passed}
use Rattle.access_spec.specs.Journal.{journaled}
use Rattle.exec_flow.proofs.flow.jump_if.Goals as goal

pub returns-then-taken : goal.returns-then-taken
returns-then-taken c = jump_taken c.args.r.now c.args.q.now c.args.taken c.args.mode c.args.v c.args.n (journaled c.args.m.now c.args.journal.now) c.if-taken.true _ c.jump.ensures

pub returns-else-taken : goal.returns-else-taken
returns-else-taken c = jump_passed c.args.r.now c.args.q.now c.args.taken c.args.mode c.args.v c.args.n (journaled c.args.m.now c.args.journal.now) c.if-taken.false _ c.advance_pc.ensures
