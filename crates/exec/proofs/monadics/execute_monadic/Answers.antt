use Rattle.exec.proofs.MonadicLaws.{is_kcall_law, is_call, is_return, is_jmp, is_jmp_false, is_jmp_true, is_catch, is_enter, is_ldraa, is_flush, is_popn}
use Rattle.access_spec.specs.Journal.{journaled}
use Rattle.exec.proofs.monadics.execute_monadic.Goals as goal

pub returns-in-Kcall : goal.returns-in-Kcall
returns-in-Kcall c = is_kcall_law c.args.r.now c.args.q.now c.args.o c.args.mode c.args.v c.args.n (journaled c.args.m.now c.args.journal.now) _ c.in-Kcall.is c.kcall.ensures

pub returns-in-Call : goal.returns-in-Call
returns-in-Call c = is_call c.args.r.now c.args.q.now c.args.o c.args.mode c.args.v c.args.n (journaled c.args.m.now c.args.journal.now) _ c.in-Call.is c.call.ensures

pub returns-in-Return : goal.returns-in-Return
returns-in-Return c = is_return c.args.r.now c.args.q.now c.args.o c.args.mode c.args.v c.args.n (journaled c.args.m.now c.args.journal.now) _ c.in-Return.is c.return_from.ensures

pub returns-in-Jmp : goal.returns-in-Jmp
returns-in-Jmp c = is_jmp c.args.r.now c.args.q.now c.args.o c.args.mode c.args.v c.args.n (journaled c.args.m.now c.args.journal.now) _ c.in-Jmp.is c.jump.ensures

pub returns-in-JmpFalse : goal.returns-in-JmpFalse
returns-in-JmpFalse c = is_jmp_false c.args.r.now c.args.q.now c.args.o c.args.mode c.args.v c.args.n (journaled c.args.m.now c.args.journal.now) _ _ c.flag-f.ensures c.in-JmpFalse.is c.jump_if.ensures

pub returns-in-JmpTrue : goal.returns-in-JmpTrue
returns-in-JmpTrue c = is_jmp_true c.args.r.now c.args.q.now c.args.o c.args.mode c.args.v c.args.n (journaled c.args.m.now c.args.journal.now) _ _ c.flag-f-in-JmpTrue.ensures c.in-JmpTrue.is c.jump_if-in-JmpTrue.ensures

pub returns-in-Catch : goal.returns-in-Catch
returns-in-Catch c = is_catch c.args.r.now c.args.q.now c.args.o c.args.mode c.args.v c.args.n (journaled c.args.m.now c.args.journal.now) _ c.in-Catch.is c.catch.ensures

pub returns-in-Enter : goal.returns-in-Enter
returns-in-Enter c = is_enter c.args.r.now c.args.q.now c.args.o c.args.mode c.args.v c.args.n (journaled c.args.m.now c.args.journal.now) _ c.in-Enter.is c.enter.ensures

pub returns-in-Ldraa : goal.returns-in-Ldraa
returns-in-Ldraa c = is_ldraa c.args.r.now c.args.q.now c.args.o c.args.mode c.args.v c.args.n (journaled c.args.m.now c.args.journal.now) _ c.in-Ldraa.is c.load_address.ensures

pub returns-in-Flush : goal.returns-in-Flush
returns-in-Flush c = is_flush c.args.r.now c.args.q.now c.args.o c.args.mode c.args.v c.args.n (journaled c.args.m.now c.args.journal.now) c.in-Flush.is _ c.advance_pc.ensures

pub returns-in-Popn : goal.returns-in-Popn
returns-in-Popn c = is_popn c.args.r.now c.args.q.now c.args.o c.args.mode c.args.v c.args.n (journaled c.args.m.now c.args.journal.now) c.in-Popn.is _ _ c.released.ensures c.advance_pc-in-Popn.ensures
